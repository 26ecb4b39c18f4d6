use Rattle.std.proofs.Common.{◌≡◌, ◌*◌, get_or, ap, arith}
use Rattle.std.proofs.lemmas.Bool.Decides.{nat_tests}
use Rattle.sec_keydata.proofs.TagSums.{weight, sum_more}
use Rattle.sec_keydata.proofs.key_tag.octet_sum.Goals as goal
use Rattle.sec_keydata.proofs.key_tag.octet_sum.Goals.{then-place-eq0, else-place-eq0}

pub loop-place-preserved : goal.loop-place-preserved
loop-place-preserved c =
    let weighs : c.if-place-eq0.weight ≡ weight c.loop-place.place = elim c.if-place-eq0.branch [
      | then-place-eq0 w
          ↦ grind (arith, nat_tests)
      | else-place-eq0 w ↦ grind (arith, nat_tests)
    ] in
    let octet = get_or c.args.octets.now c.loop-place.place 0 in
    sum_more c.args.octets.now c.loop-place.place c.loop-place.sum _ c.loop-place.invariant (omega arith)
    (omega (arith, c.type_inv.octets c.loop-place.place))
    (omega (arith, ap (λ x. c.if-place-eq0.weight * x) c.from.ensures, ap (λ w. w * octet) weighs))
