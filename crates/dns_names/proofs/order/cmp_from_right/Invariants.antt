use Rattle.std.proofs.Common.{◌≡◌, length}
use Rattle.dns_names.proofs.FromRight.{outcome}
use Rattle.dns_names.proofs.order.cmp_from_right.Given as goal

abbrev pub invariant-labels : goal.invariant-labels
invariant-labels l = (length l.left ≡ length l.right)
    × (outcome l.left l.right l.ordering ≡ outcome l.fn.left l.fn.right l.fn.tied)

abbrev pub decreases-labels : goal.decreases-labels
decreases-labels l = length l.left
