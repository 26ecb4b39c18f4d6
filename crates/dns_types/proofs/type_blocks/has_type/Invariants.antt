use Rattle.std.proofs.Common.{◌≡◌, length}
use Rattle.dns_types.specs.TypeSets.{has_type}
use Rattle.dns_types.proofs.type_blocks.has_type.Given as goal

abbrev pub invariant-loop-block : goal.invariant-loop-block
invariant-loop-block l = has_type l.rest l.rtype ≡ has_type l.octets l.rtype

abbrev pub decreases-loop-block : goal.decreases-loop-block
decreases-loop-block l = length l.rest
