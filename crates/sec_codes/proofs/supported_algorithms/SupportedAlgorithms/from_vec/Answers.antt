use Rattle.std.proofs.Common.{List, subst}
use Rattle.std.proofs.lemmas.List.{take_all}
use Rattle.sec_codes.specs.declared.algorithm.Algorithm.{Algorithm}
use Rattle.sec_codes.specs.AlgorithmSets.{IsSetOf}
use Rattle.sec_codes.proofs.Added.{set_of_next}
use Rattle.sec_codes.proofs.supported_algorithms.SupportedAlgorithms.from_vec.Goals as goal

pub algorithms-preserved : goal.algorithms-preserved
algorithms-preserved c = set_of_next c.algorithms.supported c.set.new.self c.args.algorithms.now
    c.algorithms.algorithm-index c.algorithms-test.true c.algorithms.invariant c.set.ensures

pub returns : goal.returns
returns c = let P : List Algorithm → Type 0 = λ xs. IsSetOf c.algorithms.supported xs in
    subst P (take_all c.algorithms.algorithm-index c.args.algorithms.now c.algorithms-test.false) c.algorithms.invariant
