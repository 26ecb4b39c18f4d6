use Rattle.std.proofs.Common.{◌≡◌, ◌||◌, false, ℕ, sym, ap, ◌∙◌, subst}
use Rattle.std.specs.Prelude.{IfOk}
use Rattle.std.proofs.Math.Bool.{or-false, or_assoc}
use Rattle.dns_types.specs.TypeSets.{has_type_bit, block_has, has_type, form_of}
use Rattle.dns_types.proofs.TypeBlocks.{has_more, has_none}
use Rattle.dns_types.proofs.type_form.ascending_octets.Goals as goal

pub loop-block-preserved : goal.loop-block-preserved
loop-block-preserved c n =
    let block = c.in-Some.block in
    (λ i. c.in_ok-merge.ensures n i || has_type (c.rest-rest.ensures i) n)
    ∙ or_assoc (has_type_bit c.loop-block.bits n) (block_has n block.0) (has_type block.1 n)
    ∙ ap (λ b. has_type_bit c.loop-block.bits n || b)
    (sym (has_more c.loop-block.rest.now block n (sym c.in-Some.ensures)))
    ∙ c.loop-block.invariant n

pub returns : goal.returns
returns c =
    let bits = c.loop-block.bits in
    let rest = c.loop-block.rest.now in
    let none : (n : ℕ) → has_type rest n ≡ false = λ n. has_none rest n (sym c.first.ensures ∙ c.in_default.is) in
    let same : (n : ℕ) → has_type_bit bits n ≡ has_type c.args.octets.now n = λ n. sym (or-false (has_type_bit bits n))
    ∙ ap (λ b. has_type_bit bits n || b) (sym (none n)) ∙ c.loop-block.invariant n in
    subst (λ has. IfOk c.form.result (λ form. form.items ≡ form_of has)) (λ i n. same n i) c.form.ensures
