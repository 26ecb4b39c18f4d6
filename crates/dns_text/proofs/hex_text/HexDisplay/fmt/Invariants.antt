use Rattle.std.proofs.Common.{take}
use Rattle.std.specs.Fmt.{HasWritten, IsPlainFormatter}
use Rattle.dns_text.specs.HexText.{digits, hex}
use Rattle.dns_text.proofs.hex_text.HexDisplay.fmt.Given as goal

-- the digits of the octets so far are written
abbrev pub invariant-loop-octet : goal.invariant-loop-octet
invariant-loop-octet g l = IsPlainFormatter l.initial.f
    → HasWritten g.W.Write.write_str_gives l.initial.f (hex (digits l.letters) (take l.octet-index l.octets)) l.f
