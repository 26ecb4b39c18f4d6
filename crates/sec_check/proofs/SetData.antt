-- The data of a set, by the records that are held for it.
use Rattle.std.proofs.Common.{◌≡◌, ℕ, Bool, true, false, eqb, ◌&&◌, List, [], ◌∷◌, map, Result, Ok, refl, ap}
use Rattle.std.proofs.Common.{◌∙◌}
use Rattle.std.specs.List.{AllByRecursion, filter}
use Rattle.std.proofs.lemmas.Bool.{eqb-true}
use Rattle.dns_wire.specs.declared.error.EmitError.{EmitError}
use Rattle.dns_wire.specs.Reading.{◌>>=◌}
use Rattle.dns_names.specs.Names.{same}
use Rattle.dns_grammar.specs.Messages.{ResourceRecord}
use Rattle.dns_grammar.specs.RecordData.{canon}
use Rattle.dns_rdata.specs.declared.rdata.RData.{RData}
use Rattle.dns_rdata.specs.RData.{rdata_type}
use Rattle.dns_rdata.specs.RDataTable.{rdata_table}
use Rattle.dns_message.specs.declared.record.Record.{Record}
use Rattle.dns_message.specs.OwnedMessages.{IsReadRecord}
use Rattle.dns_message.specs.Parts.{record_view}
use Rattle.sec_sign.specs.Ascending.{ascending}
use Rattle.sec_sign.specs.Sets.{SetName, canonical_each, for_each, members, same_set, set_data, set_octets, set_of, set_of_record}
use Rattle.sec_check.specs.RecordSets.{forms_rrset}
use Rattle.sec_check.specs.SectionRecords.{is_record_of}
use Rattle.sec_check.proofs.ReadRecords.{canonical_by_fields}

abbrev of_set : SetName → Record RData → Bool
of_set set rr = same_set (set_of_record rr) set

-- a record is held for a set exactly where it is of the set
held_for : (set : SetName) (rr : Record RData) → forms_rrset set.rtype ≡ true → is_record_of set rr ≡ of_set set rr
held_for set rr forms = at (eqb (rdata_type rr.rdata) set.rtype) refl
  where
    none : (f s c : Bool) → (f && (s && (c && false))) ≡ (s && (c && false))
    none true s c = refl
    none false true true = refl
    none false true false = refl
    none false false c = refl

    at : (b : Bool) → eqb (rdata_type rr.rdata) set.rtype ≡ b → is_record_of set rr ≡ of_set set rr
    at true is =
        let formed : forms_rrset (rdata_type rr.rdata) ≡ true = ap forms_rrset (eqb-true _ _ is) ∙ forms in
        rw formed refl
    at false is = rw is (none (forms_rrset (rdata_type rr.rdata)) (same rr.name set.name)
        (eqb rr.dns_class set.dns_class))

-- those that are of the set, among those that are held for it
again : (set : SetName) (records : List (Record RData)) → forms_rrset set.rtype ≡ true
    → members set_of_record set (filter (is_record_of set) records) ≡ members set_of_record set records
again set [] forms = refl
again set (rr ∷ records) forms = at (of_set set rr) refl (again set records forms)
  where
    at : (b : Bool) → of_set set rr ≡ b
        → members set_of_record set (filter (is_record_of set) records) ≡ members set_of_record set records
        → members set_of_record set (filter (is_record_of set) (rr ∷ records)) ≡ members set_of_record set (rr ∷ records)
    at true is later =
        rw (held_for set rr forms, is, is) (ap (λ (rrs : List (Record RData)). rr ∷ rrs) later)
    at false is later = rw (held_for set rr forms, is) later

abbrev Each : Type 0
Each = Result (List (List ℕ)) EmitError

-- one more record before the others
abbrev one_more : Result (List ℕ) EmitError → Each → Each
one_more first others = first >>= λ y. others >>= λ ys. Ok (y ∷ ys)

-- what each record of the set gives, by the values of its fields
each_by_fields : (set : SetName) (records : List (Record RData)) → AllByRecursion IsReadRecord records
    → canonical_each (members set_of_record set records)
    ≡ for_each (λ rr. canon rdata_table rr.rtype rr.rdata)
    (members set_of set (map record_view records))
each_by_fields set [] read = refl
each_by_fields set (rr ∷ records) read = at (of_set set rr) refl (each_by_fields set records read.1)
  where
    view : ResourceRecord
    view = record_view rr

    left : List (Record RData) → Each
    left rrs = canonical_each (members set_of_record set rrs)

    right : List ResourceRecord → Each
    right rrs = for_each (λ rr. canon rdata_table rr.rtype rr.rdata) (members set_of set rrs)

    at : (b : Bool) → of_set set rr ≡ b → left records ≡ right (map record_view records)
        → left (rr ∷ records) ≡ right (map record_view (rr ∷ records))
    at true is later =
        rw is (ap (λ (c : Result (List ℕ) EmitError). one_more c (left records))
        (canonical_by_fields rr read.0.by_number.by_number)
        ∙ ap (one_more (canon rdata_table view.rtype view.rdata)) later)
    at false is later = rw is later

pub held_data : (set : SetName) (records : List (Record RData)) → AllByRecursion IsReadRecord records
    → forms_rrset set.rtype ≡ true
    → set_data set (filter (is_record_of set) records)
    ≡ set_octets set (map record_view records)
held_data set records read forms =
    ap (λ (each : Each). each >>= λ cs. Ok (ascending cs))
    (ap canonical_each (again set records forms) ∙ each_by_fields set records read)
