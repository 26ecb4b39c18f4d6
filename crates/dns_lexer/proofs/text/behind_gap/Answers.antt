use Rattle.std.proofs.Common.{◌≡◌, ◌<◌, ◌∙◌, ap, sym, drop, arith}
use Rattle.dns_lexer.specs.Tokens.{items_behind, gap_len}
use Rattle.dns_lexer.proofs.Steps.{at_gap}
use Rattle.dns_lexer.proofs.text.behind_gap.Goals as goal

pub gaps-preserved : goal.gaps-preserved
gaps-preserved c =
    let rest = c.gaps.rest.now in
    let len = c.gap_len-len.ensures.value in
    let some : 0 < gap_len rest = omega arith in
    let moved : items_behind 0 c.behind-rest.result.now ≡ items_behind 0 rest =
    ap (items_behind 0) c.behind-rest.ensures
    ∙ (ap (λ n. items_behind 0 (drop n rest)) len ∙ sym (at_gap rest some)) in
    (c.behind-rest.utf8, moved ∙ c.gaps.invariant.1)
