-- What is signed is verified.
use Rattle.std.proofs.Common.{◌≡◌, ℕ, ℤ, true, false, List, refl, ap, ◌∙◌, subst, Result, Ok, Err, arith}
use Rattle.std.specs.Prelude.{nat_eq, nat_lt, IsOk}
use Rattle.std.proofs.lemmas.Bool.Decides.{nat_tests}
use Rattle.dns_wire.specs.declared.error.EmitError.{EmitError}
use Rattle.dns_wire.specs.Reading.{◌>>=◌}
use Rattle.dns_message.specs.declared.record.Record.{Record}
use Rattle.dns_message.specs.RecordSets.{Rrset}
use Rattle.dns_names.specs.Names.{count}
use Rattle.dns_rdata.specs.declared.rdata.RData.{RData}
use Rattle.sec_codes.specs.declared.algorithm.Algorithm.{Algorithm}
use Rattle.sec_codes.specs.declared.key_error.KeyError.{KeyError}
use Rattle.sec_codes.specs.declared.key_error.KeyKind.{KeyKind}
use Rattle.sec_codes.specs.KeyForms.{Key, key_form}
use Rattle.sec_keydata.specs.KeyTags.{dnskey_tag}
use Rattle.sec_sigdata.specs.declared.sig_input.SigInput.{SigInput}
use Rattle.sec_sigdata.specs.Signatures.{SigData}
use Rattle.sec_sign.specs.declared.sign_error.SignError.{SignError}
use Rattle.sec_sign.specs.declared.tbs_error.TbsError.{TbsError}
use Rattle.sec_sign.specs.Causes.{for_set}
use Rattle.sec_sign.specs.Sets.{set_data}
use Rattle.sec_sign.specs.Signed.{set_covered, signed_owner, signed, signed_under}
use Rattle.sec_sign.specs.Signers.{SignerData}
use Rattle.sec_sign.specs.Signing.{expiration_of, for_signature, serial_time, tag_to_sign, to_sign}
use Rattle.sec_sign.specs.Verifying.{Relation, rrsig_verified}

-- a name with its own count of labels is signed as it is
pub shown_itself : (n : List (List ℕ)) (labels : ℕ) → labels ≡ count n → signed_owner n labels ≡ Ok n
shown_itself n labels same =
    let up : nat_lt (count n) labels ≡ false = grind (arith, nat_tests) in
    let equal : nat_eq (count n) labels ≡ true = grind (arith, nat_tests) in
    rw (up, equal) refl

under_own_name : (h : SigInput) (n : List (List ℕ)) (k : ℕ) (records : List (Record RData)) (octets : List ℕ)
    → h.num_labels ≡ count n → for_signature (signed_under n h k (set_data (set_covered n k h) records)) ≡ Ok octets
    → signed h n k records ≡ Ok octets
under_own_name h n k records octets same is =
    rw (shown_itself n h.num_labels same) (at (signed_under n h k (set_data (set_covered n k h) records)) is)
  where
    at : (written : Result (List ℕ) EmitError) → for_signature written ≡ Ok octets → for_set written ≡ Ok octets
    at (Ok x) e = let same : x ≡ octets = cc in ap (λ (y : List ℕ). let ok : Result (List ℕ) TbsError = Ok y in ok) same
    at (Err cause) e = absurd cc

module _ (algorithm : Algorithm) (signer : SignerData) (set : Rrset) (k : ℕ) (inception : ℤ) (h : SigInput)
    (octets : List ℕ) where
  header : ℤ → ℕ → SigInput
  header expiration tag = record {
    type_covered = set.rtype;
    algorithm = algorithm;
    num_labels = count set.name;
    original_ttl = set.ttl;
    sig_expiration = serial_time expiration;
    sig_inception = serial_time inception;
    key_tag = tag;
    signer_name = signer.signer_name;
  }

  abbrev behind : SigInput → Result (SigInput × List ℕ) SignError
  behind header = for_signature (signed_under set.name header k (set_data (set_covered set.name k header) set.records)) >>= λ x. Ok (header, x)

  -- what there was to sign is the string of the header that was made
  pub string_to_sign : to_sign algorithm signer set k inception ≡ Ok (h, octets)
      → signed h set.name k set.records ≡ Ok octets
  unfolding header
  string_to_sign is = at (expiration_of inception signer.sig_duration) (tag_to_sign (dnskey_tag signer.dnskey)) is
    where
      written : (made : SigInput) → made.num_labels ≡ count set.name → (x : Result (List ℕ) SignError)
          → for_signature (signed_under set.name made k (set_data (set_covered set.name k made) set.records)) ≡ x
          → (x >>= λ y. let ok : Result (SigInput × List ℕ) SignError = Ok (made, y) in ok) ≡ Ok (h, octets)
          → signed h set.name k set.records ≡ Ok octets
      written made labels (Ok x) e is =
          let both : ◌≡◌ {A = SigInput × List ℕ} (made, x) (h, octets) = cc in
          let second : x ≡ octets = λ i. (both i).1 in
          subst (λ (g : SigInput). signed g set.name k set.records ≡ Ok octets) (λ i. (both i).0)
          (under_own_name made set.name k set.records octets labels (e ∙ ap (λ (y : List ℕ).
          let ok : Result (List ℕ) SignError = Ok y in ok) second))
      written made labels (Err cause) e is = absurd cc

      at : (expiration : Result ℤ SignError) (tag : Result ℕ SignError)
          → (expiration >>= λ e. (tag >>= λ t. let ok : Result SigInput SignError = Ok (header e t) in ok) >>= behind)
          ≡ Ok (h, octets)
          → signed h set.name k set.records ≡ Ok octets
      at (Ok e) (Ok t) is = written (header e t) refl _ refl is
      at (Ok e) (Err cause) is = absurd cc
      at (Err cause) tag is = absurd cc

-- where there is a string, the key has its form and the signature is accepted, the signature is verified
pub verified_string : (accepts : Relation) (key : Key) (sig : SigData) (n : List (List ℕ)) (k : ℕ)
    (records : List (Record RData)) (octets : List ℕ) → signed sig.input n k records ≡ Ok octets
    → IsOk (key_form key.algorithm key.octets) → accepts key.algorithm key.octets octets sig.sig ≡ true
    → rrsig_verified accepts key sig n k records ≡ Ok tt
verified_string accepts key sig n k records octets string form right =
    at (key_form key.algorithm key.octets) refl form
  where
    at : (found : Result KeyKind KeyError) → key_form key.algorithm key.octets ≡ found → IsOk found
        → rrsig_verified accepts key sig n k records ≡ Ok tt
    at (Ok kind) e ok = rw (string, e, right) refl
    at (Err cause) e ok = absurd cc
