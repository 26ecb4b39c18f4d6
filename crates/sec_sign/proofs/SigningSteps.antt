-- What there is to sign, step by step.
use Rattle.std.proofs.Common.{◌≡◌, ℕ, ℤ, List, refl, Result, Ok, Err}
use Rattle.dns_wire.specs.declared.error.EmitError.{EmitError}
use Rattle.dns_message.specs.RecordSets.{Rrset}
use Rattle.sec_codes.specs.declared.algorithm.Algorithm.{Algorithm}
use Rattle.sec_sigdata.specs.declared.sig_input.SigInput.{SigInput}
use Rattle.sec_sign.specs.declared.sign_error.SignError.{SignError}
use Rattle.sec_sign.specs.declared.sign_error.SignError.TheVariants as causes
use Rattle.sec_sign.specs.Sets.{set_data}
use Rattle.sec_sign.specs.Signed.{set_covered, signed_octets}
use Rattle.sec_sign.specs.Signers.{SignerData}
use Rattle.sec_sign.specs.Signing.{expiration_of, header_of, to_sign, IsSignature, IsSigned}

pub what_to_sign : (algorithm : Algorithm) (signer : SignerData) (set : Rrset) (k : ℕ) (inception expiration : ℤ)
    (h : SigInput) (cs : List (List ℕ)) (octets : List ℕ) → expiration_of inception signer.sig_duration ≡ Ok expiration
    → header_of algorithm signer set expiration inception ≡ Ok h
    → set_data (set_covered set.name k h) set.records ≡ Ok cs
    → ◌≡◌ {A = Result (List ℕ) EmitError} (Ok (signed_octets set.name h k cs)) (Ok octets)
    → to_sign algorithm signer set k inception ≡ Ok (h, octets)
what_to_sign algorithm signer set k inception expiration h cs octets first second third fourth =
    let same : signed_octets set.name h k cs ≡ octets = cc in
    rw (first, second, third, same) refl

-- a refusal of what there was to sign
pub refused : {A : Type 0} (signs : List ℕ → List ℕ → Type 0) (refuses : List ℕ → Type 0) (signed : A → Type 0)
    (what : Result (SigInput × List ℕ) SignError) (h : SigInput) (octets : List ℕ) (cause : SignError)
    → what ≡ Ok (h, octets) → IsSignature signed (refuses octets) (Err cause) → IsSigned signs refuses what (Err cause)
refused signs refuses signed what h octets (causes.Signing cause) is refusal = (refusal.0, ((h, octets), is, refusal.1))
refused signs refuses signed what h octets causes.OutOfMemory is refusal = tt
refused signs refuses signed what h octets causes.TimeOutOfRange is refusal = absurd refusal
refused signs refuses signed what h octets causes.KeyTooLong is refusal = absurd refusal
refused signs refuses signed what h octets (causes.Emit cause) is refusal = absurd refusal
