use Rattle.sec_check.specs.Sections.{Holds}
use Rattle.sec_check.proofs.section_records.SectionRecords.of.Given as goal

-- the records that were taken so far are held
abbrev pub invariant-loop-rr : goal.invariant-loop-rr
invariant-loop-rr l = Holds l.found l.yielded
