use Rattle.dns_names.proofs.FromRight.{next_behind}
use Rattle.dns_names.proofs.order.behind.Goals as goal

pub labels-preserved : goal.labels-preserved
labels-preserved c = next_behind c.next.result _ _ c.args.labels c.labels.counter c.next.ensures.steps
    c.labels.invariant
