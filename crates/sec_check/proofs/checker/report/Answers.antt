use Rattle.std.proofs.Common.{rules, ◌≡◌, ◌∙◌, ℕ, Ok}
use Rattle.dns_grammar.specs.Messages.{Message, message_at}
use Rattle.dns_message.specs.Parts.{parts_of}
use Rattle.dns_rdata.specs.RDataTable.{rdata_table}
use Rattle.sec_tsig.specs.Notices.{step_notice}
use Rattle.sec_check.specs.Marks.{Trust}
use Rattle.sec_check.specs.Reports.{set_proofs}
use Rattle.sec_check.proofs.Reported.{reported}
use Rattle.sec_check.proofs.checker.report.Goals as goal

pub returns : goal.returns
returns g c first message e read told =
    let trust : Trust =
    record { accepts = g.S.SignatureScheme.accepts c.args.scheme.now; moment = c.args.moment; entries = c.args.keys.now } in
    let step = step_notice c.args.step.now in
    let held = c.in_ok-sets.sets.items in
    let sets : (m : Message) (k : ℕ) → message_at rdata_table c.args.octets.now ≡ Ok (m, k)
    → held ≡ set_proofs trust (parts_of m) = search rules in
    let report : c.new.result
    ≡ record { sets = held; tsig_error = step.tsig_error; server_time = step.server_time } = c.new.ensures
    ∙ (λ i. record { sets = held; tsig_error = c.tsig_error.ensures i; server_time = c.server_time.ensures i }) in
    reported trust first message c.new.result held step report (sets message e read) told
