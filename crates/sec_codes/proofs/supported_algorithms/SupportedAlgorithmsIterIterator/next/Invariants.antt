use Rattle.std.proofs.Common.{◌≡◌, length}
use Rattle.std.specs.Prelude.{filter}
use Rattle.sec_codes.specs.AlgorithmSets.{has}
use Rattle.sec_codes.proofs.supported_algorithms.SupportedAlgorithmsIterIterator.next.Given as goal

abbrev pub invariant-loop-algorithm : goal.invariant-loop-algorithm
invariant-loop-algorithm l = filter (has l.self-inside.algorithms.now) l.self-inside.rest.now
    ≡ filter (has l.initial.self-inside.algorithms.now) l.initial.self-inside.rest.now

abbrev pub decreases-loop-algorithm : goal.decreases-loop-algorithm
decreases-loop-algorithm l = length l.self-inside.rest.now
