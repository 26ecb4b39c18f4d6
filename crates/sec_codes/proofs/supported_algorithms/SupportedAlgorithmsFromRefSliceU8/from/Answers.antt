use Rattle.std.proofs.Common.{ℕ, List, map, subst}
use Rattle.std.proofs.lemmas.List.{take_all}
use Rattle.sec_codes.specs.declared.algorithm.Algorithm.{Algorithm}
use Rattle.sec_codes.specs.Algorithms.{algorithm_numbered}
use Rattle.sec_codes.specs.AlgorithmSets.{IsSetOf, Adds}
use Rattle.sec_codes.proofs.Added.{set_of_next_number}
use Rattle.sec_codes.proofs.supported_algorithms.SupportedAlgorithmsFromRefSliceU8.from.Goals as goal

pub numbers-preserved : goal.numbers-preserved
numbers-preserved c =
    let P : Algorithm → Type 0 = λ a. Adds c.numbers.supported c.set.new.self a in
    set_of_next_number c.numbers.supported c.set.new.self c.args.numbers.now c.numbers.number-index c.numbers-test.true
    c.numbers.invariant (subst P c.from_u8.ensures.algorithm c.set.ensures)

pub returns : goal.returns
returns c = let P : List ℕ → Type 0 = λ ns. IsSetOf c.numbers.supported (map algorithm_numbered ns) in
    subst P (take_all c.numbers.number-index c.args.numbers.now c.numbers-test.false) c.numbers.invariant
