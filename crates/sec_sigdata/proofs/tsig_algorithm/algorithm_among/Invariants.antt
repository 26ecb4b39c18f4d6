use Rattle.std.proofs.Common.{◌≡◌, drop}
use Rattle.sec_sigdata.specs.TsigAlgorithms.{algorithm_among}
use Rattle.sec_sigdata.proofs.tsig_algorithm.algorithm_among.Given as goal

abbrev pub invariant-algorithms : goal.invariant-algorithms
invariant-algorithms l = algorithm_among (drop l.algorithm-index l.algorithms) l.name
    ≡ algorithm_among l.algorithms l.name
