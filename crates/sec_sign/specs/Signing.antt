-- Signatures of record sets as they are made (RFC 4034 3.1, RFC 4035 2.2).
use Rattle.std.specs.Prelude.{◌≡◌, ◌≢◌, ℕ, ◌^◌, ℤ, pos, ◌+ℤ◌, unsigned_abs, if◌then◌else◌, List, Result, Ok, Err}
use Rattle.std.specs.Int.{int_rem_euclid}
use Rattle.std.specs.Ordering.{int_cmp, is_lt}
use Rattle.dns_wire.specs.declared.error.EmitError.{EmitError}
use Rattle.dns_wire.specs.declared.error.EmitError.TheVariants as emit
use Rattle.dns_wire.specs.declared.serial.SerialNumber.{SerialNumber}
use Rattle.dns_wire.specs.Reading.{◌>>=◌}
use Rattle.dns_names.specs.Names.{count}
use Rattle.sec_codes.specs.declared.algorithm.Algorithm.{Algorithm}
use Rattle.sec_keydata.specs.KeyTags.{dnskey_tag}
use Rattle.sec_keydata.specs.declared.key_data_error.KeyDataError.{KeyDataError}
use Rattle.sec_sigdata.specs.declared.error.DnsSecError.TheVariants as sec
use Rattle.sec_sigdata.specs.declared.rrsig.RRSIG.{RRSIG}
use Rattle.sec_sigdata.specs.declared.sig_input.SigInput.{SigInput}
use Rattle.sec_sigdata.specs.Signatures.{rrsig_data}
use Rattle.dns_message.specs.RecordSets.{Rrset}
use Rattle.sec_sign.specs.declared.sign_error.SignError.{SignError}
use Rattle.sec_sign.specs.declared.sign_error.SignError.TheVariants as causes
use Rattle.sec_sign.specs.Sets.{set_data}
use Rattle.sec_sign.specs.Signed.{set_covered, signed_under}
use Rattle.sec_sign.specs.Signers.{SignerData}

-- a time in seconds from the start of 1970 on, as the 32 bits that an RRSIG has of it (RFC 4034 3.1.5)
abbrev pub serial_time : ℤ → SerialNumber
serial_time time = record { 0 = unsigned_abs (int_rem_euclid time (pos (2 ^ 32))) }

-- the last second of a signature that is valid from a time on for so long, which 64 bits must hold
abbrev pub expiration_of : ℤ → ℕ → Result ℤ SignError
expiration_of inception duration =
    if is_lt (int_cmp (inception +ℤ pos duration) (pos (2 ^ 63))) then Ok (inception +ℤ pos duration)
    else Err causes.TimeOutOfRange

-- the tag of the key, where it has one: a key that is too long has none
abbrev pub tag_to_sign : Result ℕ KeyDataError → Result ℕ SignError
tag_to_sign (Ok tag) = Ok tag
tag_to_sign (Err _) = Err causes.KeyTooLong

-- the fields of the RRSIG of a set, before the signature (RFC 4034 3.1)
abbrev pub header_of : Algorithm → SignerData → Rrset → ℤ → ℤ → Result SigInput SignError
header_of algorithm signer set expiration inception = do
  tag ← tag_to_sign (dnskey_tag signer.dnskey)
  Ok record {
    type_covered = set.rtype;
    algorithm = algorithm;
    num_labels = count set.name;
    original_ttl = set.ttl;
    sig_expiration = serial_time expiration;
    sig_inception = serial_time inception;
    key_tag = tag;
    signer_name = signer.signer_name;
  }

-- why a record can't be written, as a cause of the signature; out of memory stays such
abbrev pub emit_cause : EmitError → SignError
emit_cause emit.OutOfMemory = causes.OutOfMemory
emit_cause cause = causes.Emit cause

-- the same of what is written
abbrev pub for_signature : {A : Type 0} → Result A EmitError → Result A SignError
for_signature (Ok x) = Ok x
for_signature (Err cause) = Err (emit_cause cause)

-- The fields before the signature of a set in a class, valid from the inception on, and the string that is signed; or
-- the first cause why there are none. The fields have as many labels as the name, so it is signed as it is.
abbrev pub to_sign : Algorithm → SignerData → Rrset → ℕ → ℤ → Result (SigInput × List ℕ) SignError
to_sign algorithm signer set dns_class inception = do
  expiration ← expiration_of inception signer.sig_duration
  header ← header_of algorithm signer set expiration inception
  octets ← for_signature (signed_under set.name header dns_class
      (set_data (set_covered set.name dns_class header) set.records))
  Ok (header, octets)

-- What a signer answered, whose key signs and refuses as said, and which had this to sign: these fields and a signature
-- of the string; or that the key refused it, by a cause other than out of memory; or out of memory; or why there was
-- nothing to sign.
abbrev pub IsSigned : (List ℕ → List ℕ → Type 0) → (List ℕ → Type 0) → Result (SigInput × List ℕ) SignError
    → Result RRSIG SignError → Type 0
IsSigned signs refuses what (Ok rrsig) =
    (octets : List ℕ) × (what ≡ Ok ((rrsig_data rrsig).input, octets)) × signs octets (rrsig_data rrsig).sig
IsSigned signs refuses what (Err (causes.Signing cause)) =
    (cause ≢ sec.OutOfMemory) × ((x : SigInput × List ℕ) × (what ≡ Ok x) × refuses x.1)
IsSigned signs refuses what (Err causes.OutOfMemory) = Unit {0}
IsSigned signs refuses what (Err cause) = what ≡ Err cause

-- what a signer answered of a string
abbrev pub IsSignature : {A : Type 0} → (A → Type 0) → Type 0 → Result A SignError → Type 0
IsSignature signed refused (Ok signature) = signed signature
IsSignature signed refused (Err (causes.Signing cause)) = (cause ≢ sec.OutOfMemory) × refused
IsSignature signed refused (Err causes.OutOfMemory) = Unit {0}
IsSignature signed refused (Err _) = ⊥
