use Rattle.std.proofs.Common.{sym, arith}
use Rattle.dns_text.proofs.Numbers.{next_digit}
use Rattle.dns_text.proofs.words.number_below.Goals as goal

pub digits-preserved : goal.digits-preserved
digits-preserved c =
    next_digit c.digits.number _ c.digits.octet-index c.args.word.now c.digits.invariant c.digits-test.true
    (sym c.if-not-is_ascii_digit.ensures.value)
    (omega (arith, c.saturating_mul.ensures, c.from.ensures, c.saturating_add-number.ensures))
