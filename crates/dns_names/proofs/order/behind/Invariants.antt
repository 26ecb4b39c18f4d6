use Rattle.std.proofs.Common.{◌≡◌, drop}
use Rattle.dns_names.proofs.order.behind.Given as goal

abbrev pub invariant-labels : goal.invariant-labels
invariant-labels l = l.labels ≡ drop l.counter l.fn.labels
