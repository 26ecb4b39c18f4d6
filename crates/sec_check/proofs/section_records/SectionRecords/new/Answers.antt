use Rattle.sec_check.specs.SectionRecords.{key_of}
use Rattle.sec_check.proofs.section_records.SectionRecords.new.Goals as goal

pub returns : goal.returns
returns c = record {
  all_sets = c.new.ensures;
  records_of = λ set. c.new-2.ensures (key_of set);
  signatures_of = λ set. c.new-3.ensures (key_of set);
}
