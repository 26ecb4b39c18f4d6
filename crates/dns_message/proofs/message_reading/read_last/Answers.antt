use Rattle.std.proofs.Common.{◌≡◌, sym, ◌∙◌}
use Rattle.std.proofs.lemmas.Map.Views.{exact_unsigned_eq}
use Rattle.std.proofs.lemmas.Result.{err_from_is_err_and}
use Rattle.dns_wire.specs.Reading.{octets, place}
use Rattle.dns_message.specs.Views.{head_view}
use Rattle.dns_message.proofs.LastReadSteps.{tsig_read, tsig_unread}
use Rattle.dns_message.proofs.message_reading.read_last.Goals as goal

pub returns-in_err-rdata-clause-exact : goal.returns-in_err-rdata-clause-exact
returns-in_err-rdata-clause-exact c =
    let p = err_from_is_err_and c.from_residual-in_err-rdata.result c.from_residual-in_err-rdata.ensures.1 in
    let start = c.set_index.new.self in
    let behind = c.read_with.new.decoder in
    let head = c.in_ok-head.ensures.exact in
    let m = c.args.message.now in
    let same : octets start ≡ m = c.set_index.ensures.octets ∙ c.new-reader.ensures.octets in
    let is = exact_unsigned_eq c.in_ok-head.head.rtype _ (sym c.eq.ensures ∙ c.if-eq.true) in
    rw (p.1, p.2)
    (tsig_unread m c.args.start (octets start) (place start) (octets behind) (head_view c.in_ok-head.head)
    (place behind) c.in_err-rdata.field-0.0 same c.set_index.ensures.place head.0 is head.1
    c.in_err-rdata.ensures.read.exact.0)

pub returns-then-eq-clause-exact : goal.returns-then-eq-clause-exact
returns-then-eq-clause-exact c =
    let start = c.set_index.new.self in
    let behind = c.read_with.new.decoder in
    let head = c.in_ok-head.ensures.exact in
    let m = c.args.message.now in
    let same : octets start ≡ m = c.set_index.ensures.octets ∙ c.new-reader.ensures.octets in
    let is = exact_unsigned_eq c.in_ok-head.head.rtype _ (sym c.eq.ensures ∙ c.if-eq.true) in
    tsig_read m c.args.start (octets start) (place start) (octets behind) (head_view c.in_ok-head.head) (place behind)
    _ c.index.result same c.set_index.ensures.place head.0 is head.1
    (rw c.index.ensures.place c.in_ok-rdata.ensures.read.exact.0)
