use Rattle.std.proofs.Common.{take, map}
use Rattle.sec_codes.specs.Algorithms.{algorithm_numbered}
use Rattle.sec_codes.specs.AlgorithmSets.{IsSetOf}
use Rattle.sec_codes.proofs.supported_algorithms.SupportedAlgorithmsFromRefSliceU8.from.Given as goal

abbrev pub invariant-numbers : goal.invariant-numbers
invariant-numbers l = IsSetOf l.supported (map algorithm_numbered (take l.number-index l.numbers))
