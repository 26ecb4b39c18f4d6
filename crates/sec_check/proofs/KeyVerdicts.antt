-- The verdicts on a record and entries: those whose keys the record doesn't name don't meet the set.
use Rattle.std.proofs.Common.{◌≡◌, refl, sym, ap, ◌∙◌, Bool, false, ◌&&◌, ℕ, List, [], ◌∷◌, map}
use Rattle.std.proofs.Common.{Option, Some, None, Result, Ok, Err, IfOk}
use Rattle.std.proofs.Math.Bool.{and-false}
use Rattle.std.specs.BTreeMap.{BTreeMap}
use Rattle.std.specs.Global.{Vec}
use Rattle.dns_wire.specs.declared.error.EmitError.{EmitError}
use Rattle.sec_codes.specs.Algorithms.{number}
use Rattle.sec_sigdata.specs.Signatures.{SigData}
use Rattle.sec_anchor.specs.Entries.{EntryData}
use Rattle.sec_sign.specs.declared.pair.PairVerdict.{PairVerdict}
use Rattle.sec_sign.specs.declared.pair.PairVerdict.TheVariants.{NotMet}
use Rattle.sec_sign.specs.Pairs.{SignatureRecord, record_verdict, covers_set, is_within_times}
use Rattle.sec_sign.specs.Sets.{SetName}
use Rattle.sec_sign.specs.Pairs.{may_sign, names_key}
use Rattle.sec_sign.specs.Verifying.{Relation}
use Rattle.sec_check.specs.declared.key_lookup.KeyLookup.{KeyLookup}
use Rattle.sec_check.specs.Indexes.{IsIndex, is_named, key_name_cmp, name_in_rrsig, strongest_at, values_at}
use Rattle.sec_check.specs.Marks.{stronger, strongest, zone_key}
use Rattle.sec_check.proofs.KeyPositions.{strongest_positions}

-- an answer that is the first of two equal values is the second
pub is_answer : {X E : Type 0} (result : Result X E) (x y : X) → IfOk result (λ v. v ≡ x) → x ≡ y
    → IfOk result (λ v. v ≡ y)
is_answer (Ok v) x y is e = is ∙ e
is_answer (Err cause) x y is e = is

none_met : {X : Type 0} (verdict : X → PairVerdict) → ((x : X) → verdict x ≡ NotMet) → (xs : List X)
    → NotMet ≡ strongest (map verdict xs)
none_met verdict none [] = refl
none_met verdict none (x ∷ xs) =
    none_met verdict none xs
    ∙ ap (λ (v : PairVerdict). stronger v (strongest (map verdict xs))) (sym (none x))

third_fails : (a b c d : Bool) → c ≡ false → (a && (b && (c && d))) ≡ false
third_fails a b c d e = rw (e, and-false b, and-false a) refl

module _ (accepts : Relation) (moment : ℕ) (set : SetName) (octets : Result (List (List ℕ)) EmitError)
    (signature : SignatureRecord) where
  abbrev entry_verdict : EntryData → PairVerdict
  entry_verdict entry = record_verdict accepts moment set (zone_key entry) octets signature

  -- the signature with other data, and the verdict on it
  abbrev with_data : Option SigData → SignatureRecord
  with_data rrsig = record signature { rrsig = rrsig }

  abbrev verdict_with : Option SigData → EntryData → PairVerdict
  verdict_with rrsig entry = record_verdict accepts moment set (zone_key entry) octets (with_data rrsig)

  -- A record that is no signature meets no set.
  unsigned : name_in_rrsig signature ≡ None → (entry : EntryData) → entry_verdict entry ≡ NotMet
  unsigned none entry = at signature.rrsig none
    where
      at : (rrsig : Option SigData) → name_in_rrsig (with_data rrsig) ≡ None → verdict_with rrsig entry ≡ NotMet
      at None h = refl
      at (Some sig) h = cc

  pub strongest_unsigned : name_in_rrsig signature ≡ None → (entries : List EntryData)
      → NotMet ≡ strongest (map (λ entry. record_verdict accepts moment set (zone_key entry) octets signature) entries)
  strongest_unsigned none = none_met entry_verdict (unsigned none)

  -- A signature that names another key meets no set by this one.
  unnamed : (name : KeyLookup) → name_in_rrsig signature ≡ Some name → (entry : EntryData)
      → is_named name entry ≡ false → entry_verdict entry ≡ NotMet
  unnamed name is_name entry other = at signature.rrsig is_name
    where
      at : (rrsig : Option SigData) → name_in_rrsig (with_data rrsig) ≡ Some name → verdict_with rrsig entry ≡ NotMet
      at None h = cc
      at (Some sig) h =
          let named : KeyLookup = record {
            key_tag = sig.input.key_tag;
            algorithm = number sig.input.algorithm;
            dns_class = signature.dns_class;
            owner = sig.input.signer_name;
          } in
          let same_name : name ≡ named = cc in
          let names : names_key (zone_key entry) signature.dns_class sig.input ≡ false =
          ap (λ (n : KeyLookup). is_named n entry) (sym same_name) ∙ other in
          rw (third_fails (covers_set set signature.owner signature.dns_class sig.input)
          (is_within_times sig.input moment) (names_key (zone_key entry) signature.dns_class sig.input)
          (may_sign entry.name entry.dnskey set.name) names) refl

  pub strongest_named : (entries : List EntryData) (index : BTreeMap KeyLookup (Vec ℕ)) → IsIndex index entries
      → (name : KeyLookup) → name_in_rrsig signature ≡ Some name → (positions : List ℕ)
      → positions ≡ values_at key_name_cmp index name
      → strongest_at (λ entry. record_verdict accepts moment set (zone_key entry) octets signature) entries positions
      ≡ strongest (map (λ entry. record_verdict accepts moment set (zone_key entry) octets signature) entries)
  strongest_named entries index is_index name is_name positions are_there =
      ap (strongest_at entry_verdict entries) (are_there ∙ is_index.all name)
      ∙ strongest_positions entry_verdict (is_named name) (unnamed name is_name) entries
