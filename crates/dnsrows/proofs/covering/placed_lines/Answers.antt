use Rattle.std.proofs.Common.{map, sym, ◌∙◌}
use Rattle.std.specs.String.{string_bytes}
use Rattle.dnsrows.proofs.PlaceSteps.{placed_left, placed_one}
use Rattle.dnsrows.proofs.covering.placed_lines.Goals as goal

pub returns-in_default : goal.returns-in_default
returns-in_default c =
    absurd (placed_left c.args.message.now c.args.answers.now c.records.rr-index _ c.rr-item.result c.records-test.true
    (sym c.rr-item.is) c.requires.standing c.records.walk.left (map string_bytes c.records.lines.items)
    c.in_default.ensures.next.0 c.records.invariant.placed)

pub records-preserved : goal.records-preserved
records-preserved c = record {
  octets = c.in-Some.ensures.message ∙ c.records.invariant.octets;
  placed = placed_one c.args.message.now c.args.answers.now c.records.rr-index _ c.rr-item.result c.records-test.true
      (sym c.rr-item.is) c.requires.standing c.in-Some.place c.records.walk.left c.next.new.self.left
      (map string_bytes c.records.lines.items) (map string_bytes c.push_placed.new.lines.items) c.in-Some.ensures.next
      c.records.invariant.placed c.in_ok-push_placed.ensures;
}
