use Rattle.std.proofs.Common.{◌-◌, length}
use Rattle.dns_lexer.proofs.Units.{HasUnits}
use Rattle.dns_lexer.proofs.text.word_octets.Given as goal

abbrev pub invariant-units : goal.invariant-units
invariant-units l = HasUnits l.text l.len

abbrev pub decreases-units : goal.decreases-units
decreases-units l = length l.text - l.len
