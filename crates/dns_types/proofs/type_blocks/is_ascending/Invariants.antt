use Rattle.std.proofs.Common.{◌≡◌, length}
use Rattle.dns_types.specs.TypeSets.{blocks_of, ascend_from, is_ascending}
use Rattle.dns_types.proofs.type_blocks.is_ascending.Given as goal

abbrev pub invariant-loop-block : goal.invariant-loop-block
invariant-loop-block l = ascend_from l.lowest (blocks_of l.rest) ≡ is_ascending l.octets

abbrev pub decreases-loop-block : goal.decreases-loop-block
decreases-loop-block l = length l.rest
