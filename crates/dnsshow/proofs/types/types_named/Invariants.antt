use Rattle.std.proofs.Common.{◌≡◌, length}
use Rattle.dns_text.specs.Words.{words}
use Rattle.dnsshow.specs.TypeCalls.{types_named}
use Rattle.dnsshow.proofs.Gathered.{after}
use Rattle.dnsshow.proofs.types.types_named.Given as goal

abbrev pub invariant-words : goal.invariant-words
invariant-words l = after l.types.items (types_named (words l.rest)) ≡ types_named (words l.initial.rest)

abbrev pub decreases-words : goal.decreases-words
decreases-words l = length (words l.rest)
