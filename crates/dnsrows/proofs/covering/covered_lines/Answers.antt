use Rattle.std.proofs.Common.{map, sym, ap, ◌∙◌}
use Rattle.std.specs.List.{flat_map}
use Rattle.std.proofs.lemmas.List.{take_all}
use Rattle.std.proofs.lemmas.List.Folds.{flat_map-map}
use Rattle.dns_message.specs.Parts.{record_view}
use Rattle.dnsrows.specs.Covering.{covered_line}
use Rattle.dnsrows.proofs.covering.covered_lines.Goals as goal

pub returns : goal.returns
returns c =
    c.records.invariant
    ∙ ap (flat_map (λ rr. covered_line (map record_view c.args.answers.now) (record_view rr)))
    (take_all c.records.rr-index c.args.answers.now c.records-test.false)
    ∙ sym (flat_map-map (covered_line (map record_view c.args.answers.now)) record_view c.args.answers.now)
