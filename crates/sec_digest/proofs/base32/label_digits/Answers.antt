use Rattle.std.proofs.Common.{arith}
use Rattle.sec_digest.proofs.DigitSteps.{has_more}
use Rattle.sec_digest.proofs.base32.label_digits.Goals as goal

pub loop-i-preserved : goal.loop-i-preserved
loop-i-preserved c = has_more c.args.hash.now c.loop-i.digits c.loop-i.i c.digit_at.result (omega arith)
    c.digit_at.ensures.value c.loop-i.invariant
