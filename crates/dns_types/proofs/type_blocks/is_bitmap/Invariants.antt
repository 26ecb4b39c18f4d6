use Rattle.std.proofs.Common.{◌≡◌, length}
use Rattle.dns_types.specs.TypeSets.{is_bitmap}
use Rattle.dns_types.proofs.type_blocks.is_bitmap.Given as goal

abbrev pub invariant-loop-block : goal.invariant-loop-block
invariant-loop-block l = is_bitmap l.rest ≡ is_bitmap l.octets

abbrev pub decreases-loop-block : goal.decreases-loop-block
decreases-loop-block l = length l.rest
