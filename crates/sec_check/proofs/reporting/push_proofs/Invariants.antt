use Rattle.std.proofs.Common.{◌≡◌, ◌++◌, drop, map, List}
use Rattle.std.specs.List.{AllByRecursion}
use Rattle.dns_rdata.specs.declared.rdata.RData.{RData}
use Rattle.dns_message.specs.declared.record.Record.{Record}
use Rattle.dns_message.specs.OwnedMessages.{IsReadRecord}
use Rattle.dns_message.specs.Parts.{record_view}
use Rattle.sec_check.specs.Marks.{Trust}
use Rattle.sec_check.specs.Reports.{section_proofs, set_proof}
use Rattle.sec_check.specs.SectionRecords.{name_of}
use Rattle.sec_check.specs.Sections.{Holds}
use Rattle.sec_check.proofs.reporting.push_proofs.Given as goal

-- the sets so far and those that are left are those of the section
abbrev pub invariant-loop-set : goal.invariant-loop-set
invariant-loop-set g l =
    let trust : Trust = record { accepts = g.S.SignatureScheme.accepts l.scheme; moment = l.moment; entries = l.keys } in
    (records : List (Record RData)) → Holds l.held records → AllByRecursion IsReadRecord records
    → l.proofs.items
    ++ map (set_proof trust l.section (map record_view records)) (map name_of (drop l.set-index l.set-items))
    ≡ l.fn.proofs.items ++ section_proofs trust l.section (map record_view records)
