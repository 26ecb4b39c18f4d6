-- The set that is signed, by the values of its records.
use Rattle.std.proofs.Common.{◌≡◌, ℕ, ℤ, Bool, true, false, cond, ◌&&◌, eqb, List, [], ◌∷◌, map, Option, Some, Result, Ok, Err, refl, sym, ap, ◌∙◌}
use Rattle.std.specs.List.{AllByRecursion, filter}
use Rattle.std.specs.Prelude.{slice_get, unwrap_or}
use Rattle.dns_wire.specs.declared.error.EmitError.{EmitError}
use Rattle.dns_wire.specs.Reading.{◌>>=◌}
use Rattle.dns_names.specs.Names.{count, same}
use Rattle.dns_rdata.specs.declared.rdata.RData.{RData}
use Rattle.dns_rdata.specs.RData.{rdata_type}
use Rattle.dns_message.specs.declared.record.Record.{Record}
use Rattle.dns_message.specs.OwnedMessages.{IsReadRecord}
use Rattle.dns_message.specs.Parts.{record_view}
use Rattle.dns_message.specs.RecordSets.{Rrset}
use Rattle.sec_keydata.specs.KeyTags.{dnskey_tag}
use Rattle.sec_sigdata.specs.Signatures.{SigData, sig_text}
use Rattle.sec_sigdata.specs.declared.sig_input.SigInput.{SigInput}
use Rattle.sec_sign.specs.declared.sign_error.SignError.{SignError}
use Rattle.sec_sign.specs.Ascending.{ascending}
use Rattle.sec_sign.specs.Sets.{SetName, canonical_each, members, set_data, set_octets, set_of, set_of_record}
use Rattle.sec_sign.specs.Sets as sets
use Rattle.sec_sign.specs.Signed.{set_covered, signed_under}
use Rattle.sec_sign.specs.Signers.{SignerData}
use Rattle.sec_sign.specs.Signing.{expiration_of, for_signature, serial_time, tag_to_sign, to_sign}
use Rattle.dns_rows.specs.declared.refusal.Refusal.{Refusal}
use Rattle.dnsrows.specs.Signing.{first_to_sign, is_same, signed_set, signed_text, with_hash}
use Rattle.dnsrows.proofs.SetValues.{set_by_values}

-- ---- the records of the set, among those with its name and type

not_of : (a c s : Bool) → (a && s) ≡ false → (s && (c && a)) ≡ false
not_of true true true h = absurd cc
not_of true false true h = refl
not_of true c false h = refl
not_of false true true h = refl
not_of false false true h = refl
not_of false c false h = refl

abbrev is_of : SetName → Record RData → Bool
is_of set rr = sets.same_set (set_of_record rr) set

again : (set : SetName) (records : List (Record RData))
    → filter (is_of set) (filter (is_same set.name set.rtype) records) ≡ filter (is_of set) records
again set [] = refl
again set (rr ∷ rrs) = at (is_same set.name set.rtype rr) refl (again set rrs)
  where
    others : List (Record RData)
    others = filter (is_of set) rrs

    at : (b : Bool) → is_same set.name set.rtype rr ≡ b
        → filter (is_of set) (filter (is_same set.name set.rtype) rrs) ≡ others
        → filter (is_of set) (filter (is_same set.name set.rtype) (rr ∷ rrs)) ≡ filter (is_of set) (rr ∷ rrs)
    at true is later = rw is (ap (λ (l : List (Record RData)). cond (is_of set rr) (rr ∷ l) l) later)
    at false is later =
        let not : is_of set rr ≡ false =
        not_of (eqb (rdata_type rr.rdata) set.rtype) (eqb rr.dns_class set.dns_class) (same rr.name set.name) is in
        rw (is, not) later

abbrev pub same_set : List (List ℕ) → ℕ → ℕ → List (Record RData) → Rrset
same_set n t ttl records = record { name = n; rtype = t; ttl = ttl; records = filter (is_same n t) records }

data_again : (set : SetName) (records : List (Record RData))
    → set_data set (filter (is_same set.name set.rtype) records) ≡ set_data set records
data_again set records =
    ap (λ (l : List (Record RData)). canonical_each l >>= λ cs. Ok (ascending cs)) (again set records)

-- ---- what is signed

abbrev Data : Type 0
Data = Result (List (List ℕ)) EmitError

abbrev Made : Type 0
Made = Result (SigInput × List ℕ) SignError

-- the set of the first of records that were read
pub first_set : (signer : SignerData) (inception : ℤ) (rr : Record RData) (rrs : List (Record RData))
    → AllByRecursion IsReadRecord (rr ∷ rrs)
    → to_sign signer.dnskey.public_key.algorithm signer
    (same_set rr.name (rdata_type rr.rdata) rr.ttl (rr ∷ rrs)) rr.dns_class inception
    ≡ first_to_sign signer inception (record_view rr) (map record_view rrs)
first_set signer inception rr rrs read =
    ap (λ (f : ℤ → Made). expiration_of inception signer.sig_duration >>= f)
    (λ i expiration. (at expiration (tag_to_sign (dnskey_tag signer.dnskey))) i)
  where
    n : List (List ℕ)
    n = rr.name

    t : ℕ
    t = rdata_type rr.rdata

    same_data : set_data (set_of (record_view rr)) (filter (is_same n t) (rr ∷ rrs))
        ≡ set_octets (set_of (record_view rr)) (record_view rr ∷ map record_view rrs)
    same_data = data_again (set_of (record_view rr)) (rr ∷ rrs)
        ∙ set_by_values (set_of (record_view rr)) (rr ∷ rrs) read

    header : ℤ → ℕ → SigInput
    header expiration tag = record {
      type_covered = t;
      algorithm = signer.dnskey.public_key.algorithm;
      num_labels = count n;
      original_ttl = rr.ttl;
      sig_expiration = serial_time expiration;
      sig_inception = serial_time inception;
      key_tag = tag;
      signer_name = signer.signer_name;
    }

    made : SigInput → Data → Made
    made h data_of_set = for_signature (signed_under n h rr.dns_class data_of_set) >>= λ octets. Ok (h, octets)

    headed : ℤ → Result ℕ SignError → Result SigInput SignError
    headed expiration tag = tag >>= λ tag. Ok (header expiration tag)

    at : (expiration : ℤ) (tag : Result ℕ SignError)
        → (headed expiration tag >>= λ h. made h (set_data (set_covered n rr.dns_class h) (filter (is_same n t) (rr ∷ rrs))))
        ≡ (headed expiration tag >>= λ h. made h (set_octets (set_of (record_view rr)) (record_view rr ∷ map record_view rrs)))
    at expiration (Ok tag) = ap (made (header expiration tag)) same_data
    at expiration (Err cause) = refl

-- ---- the text of the signature

abbrev pub shown_text : Result SigData Refusal → Result (List ℕ) Refusal
shown_text made = made >>= λ sig. Ok (sig_text sig)

-- the signature of the set of the first record, by the values of the records
pub signed_first : (signer : SignerData) (inception : ℤ) (records : List (Record RData)) (first : Record RData)
    (set : Rrset) → Some first ≡ slice_get records 0 → AllByRecursion IsReadRecord records
    → set ≡ same_set first.name (rdata_type first.rdata) first.ttl records
    → signed_text signer inception (map record_view records)
    ≡ shown_text (signed_set signer set first.dns_class inception)
signed_first signer inception [] first set here read is = absurd cc
signed_first signer inception (rr ∷ rrs) first set here read is =
    let same : rr ≡ first = ap (λ (o : Option (Record RData)). unwrap_or o rr) (sym here) in
    let sets : same_set rr.name (rdata_type rr.rdata) rr.ttl (rr ∷ rrs) ≡ set =
    ap (λ (x : Record RData). same_set x.name (rdata_type x.rdata) x.ttl (rr ∷ rrs)) same ∙ sym is in
    ap (λ (made : Made). shown_text (with_hash signer made))
    (sym (first_set signer inception rr rrs read)
    ∙ (λ i. to_sign signer.dnskey.public_key.algorithm signer (sets i) (same i).dns_class inception))
