-- What stands of the records of a section, once they are sorted by their sets.
use Rattle.sec_check.specs.declared.section_records.SectionRecords.{SectionRecords}
use Rattle.std.specs.Prelude.{List}
use Rattle.dns_rdata.specs.declared.rdata.RData.{RData}
use Rattle.dns_message.specs.declared.record.Record.{Record}
use Rattle.sec_check.specs.Indexes.{values_at}
use Rattle.sec_check.specs.SectionRecords.{IsSorted, key_cmp}

-- what is held is what there is of these records
abbrev pub Holds : SectionRecords → List (Record RData) → Type 0
Holds held records =
    IsSorted held.sets (values_at key_cmp held.records.by_key) (values_at key_cmp held.signatures.by_key) records
