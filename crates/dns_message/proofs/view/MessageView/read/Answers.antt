use Rattle.std.proofs.Common.{◌≡◌, true, sym, ◌∙◌}
use Rattle.dns_wire.specs.Reading.{octets, place}
use Rattle.dns_grammar.specs.Messages.{record_at}
use Rattle.dns_rdata.specs.RDataTable.{rdata_table}
use Rattle.dns_message.specs.Views.{as_signature, header_view}
use Rattle.dns_message.proofs.OutlineSteps.{last_fails}
use Rattle.dns_message.proofs.view.MessageView.read.Goals as goal

pub returns-in-Err-clause-exact : goal.returns-in-Err-clause-exact
returns-in-Err-clause-exact c =
    let m = c.args.octets.now in
    let same : octets c.set_index.new.self ≡ m = c.set_index.ensures.octets ∙ c.new-reader.ensures.octets in
    let here : place c.set_index.new.self ≡ c.in_ok-header.end = c.set_index.ensures.place in
    last_fails m (header_view c.in_ok-header.header) c.in_ok-header.end c.in-Err.fault c.in_ok-header.ensures.exact
    c.if-header-eq0.false
    (sym (λ i. as_signature (record_at rdata_table true (same i) (here i))) ∙ c.in-Err.ensures.exact.0)
