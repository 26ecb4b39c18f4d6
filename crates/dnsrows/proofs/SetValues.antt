-- Records that were read, by the values of their fields.
use Rattle.std.proofs.Common.{◌≡◌, ℕ, Bool, true, false, List, [], ◌∷◌, map, Result, Ok}
use Rattle.std.proofs.Common.{refl, ap, ◌∙◌}
use Rattle.std.specs.List.{AllByRecursion}
use Rattle.dns_wire.specs.declared.error.EmitError.{EmitError}
use Rattle.dns_wire.specs.Reading.{◌>>=◌}
use Rattle.dns_grammar.specs.Messages.{ResourceRecord}
use Rattle.dns_grammar.specs.RecordData.{canon}
use Rattle.dns_rdata.specs.declared.rdata.RData.{RData}
use Rattle.dns_rdata.specs.RDataTable.{rdata_table}
use Rattle.dns_message.specs.declared.record.Record.{Record}
use Rattle.dns_message.specs.OwnedMessages.{IsReadRecord}
use Rattle.dns_message.specs.Parts.{record_view}
use Rattle.sec_sign.specs.Ascending.{ascending}
use Rattle.sec_sign.specs.Sets.{SetName, canonical_each, for_each, members, same_set, set_data, set_octets, set_of, set_of_record}
use Rattle.sec_check.proofs.ReadRecords.{canonical_by_fields}

abbrev of_set : SetName → Record RData → Bool
of_set set rr = same_set (set_of_record rr) set

abbrev Each : Type 0
Each = Result (List (List ℕ)) EmitError

-- one more record before the others
abbrev one_more : Result (List ℕ) EmitError → Each → Each
one_more first others = first >>= λ y. others >>= λ ys. Ok (y ∷ ys)

-- what each record of the set gives, by the values of its fields
each_by_values : (set : SetName) (records : List (Record RData)) → AllByRecursion IsReadRecord records
    → canonical_each (members set_of_record set records)
    ≡ for_each (λ rr. canon rdata_table rr.rtype rr.rdata)
    (members set_of set (map record_view records))
each_by_values set [] read = refl
each_by_values set (rr ∷ records) read = at (of_set set rr) refl (each_by_values set records read.1)
  where
    view : ResourceRecord
    view = record_view rr

    left : List (Record RData) → Each
    left rrs = canonical_each (members set_of_record set rrs)

    right : List ResourceRecord → Each
    right rrs = for_each (λ rr. canon rdata_table rr.rtype rr.rdata) (members set_of set rrs)

    at : (b : Bool) → of_set set rr ≡ b → left records ≡ right (map record_view records)
        → left (rr ∷ records) ≡ right (map record_view (rr ∷ records))
    at true is later =
        rw is (ap (λ (c : Result (List ℕ) EmitError). one_more c (left records))
        (canonical_by_fields rr read.0.by_number.by_number)
        ∙ ap (one_more (canon rdata_table view.rtype view.rdata)) later)
    at false is later = rw is later

-- the data of a set, by the values of its records
pub set_by_values : (set : SetName) (records : List (Record RData)) → AllByRecursion IsReadRecord records
    → set_data set records ≡ set_octets set (map record_view records)
set_by_values set records read =
    ap (λ (each : Each). each >>= λ cs. Ok (ascending cs)) (each_by_values set records read)
