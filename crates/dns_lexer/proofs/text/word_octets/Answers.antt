use Rattle.std.proofs.Common.{◌≡◌, ◌∙◌, ◌+◌, ◌<◌, ap, sym, subst, drop, arith}
use Rattle.std.proofs.lemmas.List.{take_rest}
use Rattle.dns_lexer.specs.Tokens.{unit_len}
use Rattle.dns_lexer.proofs.Units.{HasUnits, unit_more, units_end}
use Rattle.dns_lexer.proofs.text.word_octets.Goals as goal

pub units-preserved : goal.units-preserved
units-preserved c =
    let text = c.args.text.now in
    let is : c.unit_len-next.result ≡ unit_len (drop c.units.len text) =
    c.unit_len-next.ensures ∙ ap unit_len (take_rest text c.units.len) in
    let some : 0 < unit_len (drop c.units.len text) = omega arith in
    subst (λ n. HasUnits text (c.units.len + n)) (sym is) (unit_more text c.units.len c.units.invariant some)

pub returns-then-next-eq0-clause-value : goal.returns-then-next-eq0-clause-value
returns-then-next-eq0-clause-value c =
    let text = c.args.text.now in
    let is : c.unit_len-next.result ≡ unit_len (drop c.units.len text) =
    c.unit_len-next.ensures ∙ ap unit_len (take_rest text c.units.len) in
    units_end text c.units.len c.units.invariant (sym is ∙ c.if-next-eq0.true)
