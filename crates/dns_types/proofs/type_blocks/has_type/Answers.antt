use Rattle.std.proofs.Common.{sym, ap, ◌∙◌}
use Rattle.dns_types.specs.TypeSets.{has_type}
use Rattle.dns_types.proofs.TypeBlocks.{found, passed}
use Rattle.dns_types.proofs.type_blocks.has_type.Goals as goal

pub returns-then-has : goal.returns-then-has
returns-then-has c = sym (found _ c.in-Some.block _ (sym c.in-Some.ensures) (sym c.has.ensures ∙ c.if-has.true))
    ∙ c.loop-block.invariant

pub loop-block-preserved : goal.loop-block-preserved
loop-block-preserved c =
    ap (λ octets. has_type octets c.args.rtype) c.rest-rest.ensures
    ∙ sym (passed _ c.in-Some.block _ (sym c.in-Some.ensures) (sym c.has.ensures ∙ c.if-has.false))
    ∙ c.loop-block.invariant
