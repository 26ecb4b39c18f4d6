use Rattle.std.proofs.Common.{◌+◌, refl, sym, ◌∙◌, arith}
use Rattle.dns_types.specs.TypeSets.{ascend_from, blocks_of, is_ascending}
use Rattle.dns_types.proofs.TypeBlocks.{descends, ascends}
use Rattle.dns_types.proofs.type_blocks.is_ascending.Goals as goal

pub loop-block-init : goal.loop-block-init
unfolding is_ascending
loop-block-init c = refl

pub returns-then-from-lowest : goal.returns-then-from-lowest
returns-then-from-lowest c = sym (descends _ c.in-Some.block _ (sym c.in-Some.ensures)
    (omega (arith, c.window.ensures, c.from.ensures))) ∙ c.loop-block.invariant

pub loop-block-preserved : goal.loop-block-preserved
loop-block-preserved c =
    (λ i. ascend_from ((c.from-lowest.ensures ∙ c.window-in-Some.ensures) i + 1) (blocks_of (c.rest-rest.ensures i)))
    ∙ sym (ascends _ c.in-Some.block _ (sym c.in-Some.ensures) (omega (arith, c.window.ensures, c.from.ensures)))
    ∙ c.loop-block.invariant
