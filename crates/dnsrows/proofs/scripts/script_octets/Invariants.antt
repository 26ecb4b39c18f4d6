use Rattle.std.proofs.Common.{◌≡◌, ◌++◌, length}
use Rattle.dns_text.specs.Words.{words}
use Rattle.dnsrows.specs.Scripts.{script_octets}
use Rattle.dnsrows.proofs.scripts.script_octets.Given as goal

-- the words so far and those that are left are all of them
abbrev pub invariant-words : goal.invariant-words
invariant-words l = l.script.items ++ script_octets (words l.rest) ≡ script_octets (words l.line)

abbrev pub decreases-words : goal.decreases-words
decreases-words l = length l.rest
