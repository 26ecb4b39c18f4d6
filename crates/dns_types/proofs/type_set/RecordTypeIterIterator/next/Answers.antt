use Rattle.std.proofs.Common.{◌≡◌, ◌∷◌, ◌+◌, [], ap, sym, ◌∙◌, subst, IsTrue, List, ℕ, length, arith}
use Rattle.dns_types.specs.TypeSets.{ascend_from, blocks_of}
use Rattle.dns_types.specs.TypeWalks.{types_from}
use Rattle.dns_types.proofs.TypeWalks.{yields, passes_on, walk_on, ends}
use Rattle.dns_types.proofs.type_set.RecordTypeIterIterator.next.Goals as goal

pub returns-in-Some-type_from-clause-steps : goal.returns-in-Some-type_from-clause-steps
returns-in-Some-type_from-clause-steps c =
    let walk = c.loop-block.invariant.is_walk in
    sym c.self.view_is ∙ sym c.loop-block.invariant.left
    ∙ yields c.loop-block.self-inside.rest.now c.in-Some.block walk.window c.loop-block.self-inside.lowest
    c.in-Some-type_from.rtype (sym c.in-Some.ensures) walk.ascends (omega arith) c.in-Some-type_from.ensures
    ∙ (λ i. sym c.from-in-Some-type_from.ensures i
    ∷ types_from c.loop-block.self-inside.rest.now (sym c.from.ensures i + 1))

pub returns-in-Some-type_from-clause-goes : goal.returns-in-Some-type_from-clause-goes
returns-in-Some-type_from-clause-goes c =
    let shorter = ap length (returns-in-Some-type_from-clause-steps c) in
    record { on = λ _. (tt, tt, omega (arith, shorter)); keeps = tt; rests = λ _. tt }

pub loop-block-preserved : goal.loop-block-preserved
loop-block-preserved c =
    let walk = c.loop-block.invariant.is_walk in
    record {
      is_walk = record {
        window = c.in-Some.block.0.window + 1;
        ascends = subst (λ (x : List ℕ). IsTrue (ascend_from (c.in-Some.block.0.window + 1) (blocks_of x)))
            (sym c.rest-self-inside.ensures) (walk_on c.loop-block.self-inside.rest.now c.in-Some.block walk.window
            (sym c.in-Some.ensures) walk.ascends);
        within = walk.within;
      };
      left = ap (λ x. types_from x c.loop-block.self-inside.lowest) c.rest-self-inside.ensures
          ∙ sym (passes_on c.loop-block.self-inside.rest.now c.in-Some.block c.loop-block.self-inside.lowest
          (sym c.in-Some.ensures) c.in_default-type_from.ensures)
          ∙ c.loop-block.invariant.left;
    }

pub returns-clause-steps : goal.returns-clause-steps
returns-clause-steps c =
    let none : types_from c.loop-block.self-inside.rest.now c.loop-block.self-inside.lowest
    ≡ [] = ends c.loop-block.self-inside.rest.now c.loop-block.self-inside.lowest
    (sym c.first.ensures ∙ c.in_default.is) in
    (sym c.self.view_is ∙ sym c.loop-block.invariant.left ∙ none, none)
