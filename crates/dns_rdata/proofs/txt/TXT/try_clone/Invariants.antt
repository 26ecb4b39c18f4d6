use Rattle.std.proofs.Common.{◌≡◌, take}
use Rattle.dns_rdata.proofs.txt.TXT.try_clone.Given as goal

-- the strings that were copied
abbrev pub invariant-loop-string : goal.invariant-loop-string
invariant-loop-string l = l.strings.items ≡ take l.string-index l.held
