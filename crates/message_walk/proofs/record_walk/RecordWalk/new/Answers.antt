use Rattle.std.proofs.Common.{◌∙◌}
use Rattle.dns_wire.specs.Reading.{octets, place}
use Rattle.dns_message.specs.Views.{header_view}
use Rattle.message_walk.proofs.WalkSteps.{given_at, header_known, known, stand_at}
use Rattle.message_walk.proofs.record_walk.RecordWalk.new.Goals as goal

pub returns-in_err-header-clause-exact : goal.returns-in_err-header-clause-exact
returns-in_err-header-clause-exact c =
    absurd (header_known c.args.message.now _ _ c.in_ok-check_message.ensures.exact c.in_err-header.ensures.exact)

pub invariant_of-result : goal.invariant_of-result
invariant_of-result c =
    let k = known c.args.message.now (header_view c.in_ok-header.header) c.in_ok-header.start _
    c.in_ok-check_message.ensures.exact c.in_ok-header.ensures.exact in
    stand_at c.args.message.now (octets c.set_index.new.self) c.in_ok-header.start (place c.set_index.new.self) _ _ _
    (c.set_index.ensures.octets ∙ c.new-reader.ensures.octets) c.set_index.ensures.place k.stand

pub returns-clause-exact : goal.returns-clause-exact
returns-clause-exact c =
    let k = known c.args.message.now (header_view c.in_ok-header.header) c.in_ok-header.start _
    c.in_ok-check_message.ensures.exact c.in_ok-header.ensures.exact in
    given_at c.args.message.now (octets c.set_index.new.self) c.in_ok-header.start (place c.set_index.new.self) _ _ _ _
    (c.set_index.ensures.octets ∙ c.new-reader.ensures.octets) c.set_index.ensures.place k.given
