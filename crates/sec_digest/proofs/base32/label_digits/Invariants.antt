use Rattle.sec_digest.proofs.DigitSteps.{HasDigits}
use Rattle.sec_digest.proofs.base32.label_digits.Given as goal

abbrev pub invariant-loop-i : goal.invariant-loop-i
invariant-loop-i l = HasDigits l.hash l.digits l.i
