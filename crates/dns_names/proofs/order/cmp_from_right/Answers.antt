use Rattle.std.proofs.Common.{◌≡◌, length, ap, sym, ◌∙◌, arith}
use Rattle.std.specs.Ordering.{ordering_then}
use Rattle.dns_names.proofs.FromRight.{outcome, outcome_step}
use Rattle.dns_names.proofs.order.cmp_from_right.Goals as goal

pub labels-preserved : goal.labels-preserved
labels-preserved c =
    let left = c.in-Some-Some.ensures.steps in
    let right = c.in-Some-Some.ensures'.steps in
    let long : length c.next.new.self ≡ length c.next-in-labels.new.self = omega
    (arith, ap length left, ap length right, c.labels.invariant.0) in (
      long,
      ap (outcome c.next.new.self c.next-in-labels.new.self) (c.then-ordering.ensures
          ∙ ap (λ o. ordering_then o c.labels.ordering) c.cmp.ensures)
          ∙ sym (outcome_step c.in-Some-Some.a.now c.in-Some-Some.b.now c.next.new.self c.next-in-labels.new.self
          c.labels.ordering long)
          ∙ (λ i. outcome (sym left i) (sym right i) c.labels.ordering)
          ∙ c.labels.invariant.1,
    )
