use Rattle.std.proofs.Common.{take}
use Rattle.sec_codes.specs.AlgorithmSets.{IsSetOf}
use Rattle.sec_codes.proofs.supported_algorithms.SupportedAlgorithms.from_vec.Given as goal

abbrev pub invariant-algorithms : goal.invariant-algorithms
invariant-algorithms l = IsSetOf l.supported (take l.algorithm-index l.algorithms)
