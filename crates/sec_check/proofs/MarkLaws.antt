-- The mark of a set, by the records and the signatures that are held for it.
use Rattle.std.proofs.Common.{◌≡◌, ℕ, Bool, true, false, eqb, ◌&&◌, ◌||◌, if◌then◌else◌, List, [], ◌∷◌, map, Option}
use Rattle.std.proofs.Common.{Some, None, Result, refl, ap, ◌∙◌}
use Rattle.std.specs.List.{AllByRecursion, filter, list_any}
use Rattle.dns_wire.specs.declared.error.EmitError.{EmitError}
use Rattle.dns_names.specs.Names.{count, same}
use Rattle.sec_anchor.specs.Entries.{EntryData}
use Rattle.sec_codes.specs.declared.proof.Proof.{Proof}
use Rattle.sec_codes.specs.declared.proof.Proof.TheVariants.{Indeterminate, Bogus, Secure}
use Rattle.sec_sigdata.specs.Signatures.{SigData}
use Rattle.dns_rdata.specs.declared.rdata.RData.{RData}
use Rattle.dns_message.specs.declared.record.Record.{Record}
use Rattle.dns_message.specs.OwnedMessages.{IsReadRecord}
use Rattle.dns_message.specs.Parts.{record_view}
use Rattle.sec_sign.specs.declared.pair.PairVerdict.{PairVerdict}
use Rattle.sec_sign.specs.declared.pair.PairVerdict.TheVariants.{NotMet, NotAccepted, Authentic}
use Rattle.sec_sign.specs.Sets.{SetName, set_data, set_octets}
use Rattle.sec_sign.specs.Pairs.{SignatureRecord, ZoneKey, covers_set, record_verdict, rrsig_verdict}
use Rattle.sec_sign.specs.Pairs.{signature_record}
use Rattle.sec_sign.specs.Verifying.{Relation}
use Rattle.sec_check.specs.Marks.{Trust, has_met, is_authentic, mark, mark_by}
use Rattle.sec_check.specs.Marks.{signature_of_record, some_pair, stronger, strongest, strongest_on, strongest_pair}
use Rattle.sec_check.specs.Marks.{zone_key}
use Rattle.sec_check.specs.Reports.{set_proof}
use Rattle.dns_message.specs.declared.section.Section.{Section}
use Rattle.dns_grammar.specs.Messages.{ResourceRecord}
use Rattle.sec_check.specs.RecordSets.{forms_rrset}
use Rattle.sec_check.specs.SectionRecords.{covered_by, is_record_of, is_set, is_signature_of}
use Rattle.sec_check.proofs.ReadRecords.{signature_by_fields}
use Rattle.sec_check.proofs.SetData.{held_data}
use Rattle.sec_check.proofs.Strongest.{has_met-stronger, has_met-strongest, is_authentic-stronger, is_authentic-strongest}
use Rattle.sec_check.proofs.Strongest.{strongest-filter}

abbrev Octets : Type 0
Octets = Result (List (List ℕ)) EmitError

map-twice : {X Y Z : Type 0} (f : Y → Z) (g : X → Y) (xs : List X) → map f (map g xs) ≡ map (λ x. f (g x)) xs
map-twice f g [] = refl
map-twice f g (x ∷ xs) = ap (λ zs. f (g x) ∷ zs) (map-twice f g xs)

-- ---- what covers another set meets none

apart : (s c t l : Bool) → (s && (c && t)) ≡ false → (t && (c && (l && s))) ≡ false
apart true true true l h = absurd cc
apart true true false l h = refl
apart true false true l h = refl
apart true false false l h = refl
apart false true true true h = refl
apart false true true false h = refl
apart false true false l h = refl
apart false false true l h = refl
apart false false false l h = refl

not_met : (accepts : Relation) (moment : ℕ) (set : SetName) (key : ZoneKey) (octets : Octets) (owner : List (List ℕ))
    (dns_class : ℕ) (rrsig : Option SigData) → is_set set (covered_by owner dns_class rrsig) ≡ false
    → rrsig_verdict accepts moment set key octets owner dns_class rrsig ≡ NotMet
not_met accepts moment set key octets owner dns_class None h = refl
not_met accepts moment set key octets owner dns_class (Some sig) h =
    let covers : covers_set set owner dns_class sig.input ≡ false =
    apart (same owner set.name) (eqb dns_class set.dns_class) (eqb sig.input.type_covered set.rtype)
    (eqb sig.input.num_labels (count set.name)) h in
    rw covers refl

none_met : {X : Type 0} (verdict : X → PairVerdict) → ((x : X) → verdict x ≡ NotMet) → (xs : List X)
    → strongest (map verdict xs) ≡ NotMet
none_met verdict none [] = refl
none_met verdict none (x ∷ xs) = rw (none x) (none_met verdict none xs)

module _ (trust : Trust) (set : SetName) (octets : Octets) where
  -- the strongest verdict on a record and an entry
  abbrev on : Record RData → PairVerdict
  on rr = strongest_on trust set octets (signature_record rr)

  other_set : (rr : Record RData) → is_signature_of set rr ≡ false → on rr ≡ NotMet
  other_set rr h =
      none_met
      (λ (entry : EntryData). record_verdict trust.accepts trust.moment set (zone_key entry) octets
      (signature_record rr))
      (λ entry. not_met trust.accepts trust.moment set (zone_key entry) octets rr.name rr.dns_class
      (signature_record rr).rrsig h)
      trust.entries

  held_signatures : (records : List (Record RData))
      → strongest_pair trust set octets (map signature_record (filter (is_signature_of set) records))
      ≡ strongest (map on records)
  held_signatures records =
      ap strongest (map-twice (strongest_on trust set octets) signature_record (filter (is_signature_of set) records))
      ∙ strongest-filter (is_signature_of set) on other_set records

  -- a test of a verdict that the strongest passes exactly where one of them does
  module _ (test : PairVerdict → Bool) (of_two : (v w : PairVerdict) → test (stronger v w) ≡ (test v || test w))
      (of_all : (vs : List PairVerdict) → test (strongest vs) ≡ list_any test vs) where
    any_map : {X : Type 0} (f : X → PairVerdict) (xs : List X) → list_any test (map f xs) ≡ list_any (λ x. test (f x)) xs
    any_map f [] = refl
    any_map f (x ∷ xs) = ap (λ (b : Bool). test (f x) || b) (any_map f xs)

    -- the verdict on a signature and an entry
    abbrev verdict_on : SignatureRecord → EntryData → PairVerdict
    verdict_on signature entry =
        record_verdict trust.accepts trust.moment set (zone_key entry) octets signature

    one_record : (rr : Record RData) → IsReadRecord rr
        → test (on rr)
        ≡ list_any (λ entry. test (verdict_on (signature_of_record (record_view rr)) entry)) trust.entries
    one_record rr read =
        of_all (map (verdict_on (signature_record rr)) trust.entries)
        ∙ any_map (verdict_on (signature_record rr)) trust.entries
        ∙ ap (λ (s : SignatureRecord). list_any (λ entry. test (verdict_on s entry)) trust.entries)
        (signature_by_fields rr read.by_number.by_number)

    pub any_record : (records : List (Record RData)) → AllByRecursion IsReadRecord records
        → test (strongest (map on records))
        ≡ some_pair (λ rr entry. test (verdict_on (signature_of_record rr) entry)) (map record_view records)
        trust.entries
    any_record [] read = of_all []
    any_record (rr ∷ records) read =
        of_two (on rr) (strongest (map on records))
        ∙ ap (λ (b : Bool). b || test (strongest (map on records))) (one_record rr read.0)
        ∙ ap (λ (b : Bool).
        list_any (λ entry. test (verdict_on (signature_of_record (record_view rr)) entry)) trust.entries || b)
        (any_record records read.1)

-- ---- the mark

by_tests : (v : PairVerdict) → mark_by v ≡ (if is_authentic v then Secure else if has_met v then Bogus else Indeterminate)
by_tests Authentic = refl
by_tests NotAccepted = refl
by_tests NotMet = refl

abbrev chosen_mark : Bool → Bool → Proof
chosen_mark authentic met = if authentic then Secure else if met then Bogus else Indeterminate

whole_mark : (trust : Trust) (set : SetName) (records : List (Record RData)) → AllByRecursion IsReadRecord records
    → mark_by (strongest (map (on trust set (set_octets set (map record_view records))) records))
    ≡ mark trust (map record_view records) set
unfolding mark
whole_mark trust set records read =
    let octets = set_octets set (map record_view records) in
    let verdict = strongest (map (on trust set octets) records) in
    by_tests verdict
    ∙ ap (λ (b : Bool). chosen_mark b (has_met verdict))
    (any_record trust set octets is_authentic is_authentic-stronger is_authentic-strongest records read)
    ∙ ap (chosen_mark _) (any_record trust set octets has_met has_met-stronger has_met-strongest records read)

-- the mark by what is held for a set
pub held_mark : (trust : Trust) (set : SetName) (records : List (Record RData))
    → AllByRecursion IsReadRecord records → forms_rrset set.rtype ≡ true
    → mark_by (strongest_pair trust set
    (set_data set (filter (is_record_of set) records))
    (map signature_record (filter (is_signature_of set) records)))
    ≡ mark trust (map record_view records) set
held_mark trust set records read forms =
    let octets = set_octets set (map record_view records) in
    ap mark_by
    (ap (λ (o : Octets). strongest_pair trust set o (map signature_record (filter (is_signature_of set) records)))
    (held_data set records read forms)
    ∙ held_signatures trust set octets records)
    ∙ whole_mark trust set records read

-- a set with its mark, by its parts
pub marked : (trust : Trust) (section : Section) (records : List ResourceRecord) (set : SetName) (dns_class rtype : ℕ)
    (proof : Proof) → dns_class ≡ set.dns_class → rtype ≡ set.rtype → proof ≡ mark trust records set
    → record { section = section; owner = set.name; dns_class = dns_class; rtype = rtype; proof = proof }
    ≡ set_proof trust section records set
marked trust section records set dns_class rtype proof of_class of_type is = λ i. record {
  section = section;
  owner = set.name;
  dns_class = of_class i;
  rtype = of_type i;
  proof = is i;
}
