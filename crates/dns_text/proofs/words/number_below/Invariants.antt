use Rattle.std.proofs.Common.{take}
use Rattle.dns_text.proofs.Numbers.{HasDigits}
use Rattle.dns_text.proofs.words.number_below.Given as goal

abbrev pub invariant-digits : goal.invariant-digits
invariant-digits l = HasDigits l.number (take l.octet-index l.word)
