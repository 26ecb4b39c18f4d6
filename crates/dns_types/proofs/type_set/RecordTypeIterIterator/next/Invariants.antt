use Rattle.std.proofs.Common.{◌≡◌, length}
use Rattle.dns_types.specs.TypeWalks.{types_from, IsTypeWalk}
use Rattle.dns_types.proofs.type_set.RecordTypeIterIterator.next.Given as goal

abbrev pub invariant-loop-block : goal.invariant-loop-block
invariant-loop-block l = record {
  is_walk : IsTypeWalk l.self-inside.rest.now l.self-inside.lowest;
  left : types_from l.self-inside.rest.now l.self-inside.lowest
      ≡ types_from l.initial.self-inside.rest.now l.initial.self-inside.lowest;
}

abbrev pub decreases-loop-block : goal.decreases-loop-block
decreases-loop-block l = length l.self-inside.rest.now
