use Rattle.std.proofs.Common.{rules, ◌≡◌, ◌∙◌, true, map, List}
use Rattle.std.specs.List.{AllByRecursion}
use Rattle.dns_rdata.specs.declared.rdata.RData.{RData}
use Rattle.dns_message.specs.declared.record.Record.{Record}
use Rattle.dns_message.specs.OwnedMessages.{IsReadRecord}
use Rattle.dns_message.specs.Parts.{record_view}
use Rattle.sec_check.specs.Marks.{Trust}
use Rattle.sec_check.specs.RecordSets.{forms_rrset, record_sets}
use Rattle.sec_check.specs.Reports.{set_proof}
use Rattle.sec_check.specs.SectionRecords.{name_of}
use Rattle.sec_check.specs.Sections.{Holds}
use Rattle.sec_check.proofs.SectionSets.{forms_at, one_more_set}
use Rattle.sec_check.proofs.reporting.push_proofs.Goals as goal

pub loop-set-preserved : goal.loop-set-preserved
loop-set-preserved g c records holds read =
    let trust : Trust =
    record { accepts = g.S.SignatureScheme.accepts c.args.scheme.now; moment = c.args.moment; entries = c.args.keys.now } in
    let views = map record_view records in
    let keys = c.keys-set-items.result.now in
    let sets : map name_of keys ≡ record_sets views = c.keys-set-items.ensures ∙ holds.all_sets in
    let forms = forms_at views keys c.loop-set.set-index c.set-item.result c.loop-set-test.true sets c.set-item.is in
    let proof : (rrs : List (Record RData)) → Holds c.args.held.now rrs → AllByRecursion IsReadRecord rrs
    → forms_rrset c.set-item.result.rtype ≡ true
    → c.in_ok-proof.proof ≡ set_proof trust c.args.section (map record_view rrs) (name_of c.set-item.result) =
    search rules in
    one_more_set (set_proof trust c.args.section views) keys c.loop-set.set-index c.set-item.result
    c.loop-set.proofs.items c.push.new.self.items _ c.in_ok-proof.proof c.loop-set-test.true c.set-item.is
    (proof records holds read forms) c.in_ok-push.ensures.items (c.loop-set.invariant records holds read)
