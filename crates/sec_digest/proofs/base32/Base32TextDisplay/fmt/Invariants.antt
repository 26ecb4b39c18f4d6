use Rattle.std.specs.Fmt.{HasWritten, IsPlainFormatter}
use Rattle.sec_digest.proofs.DigitSteps.{digits_up_to}
use Rattle.sec_digest.proofs.base32.Base32TextDisplay.fmt.Given as goal

-- the digits so far are written
abbrev pub invariant-loop-i : goal.invariant-loop-i
invariant-loop-i g l = IsPlainFormatter l.initial.f
    → HasWritten g.W.Write.write_str_gives l.initial.f (digits_up_to l.i l.octets) l.f
