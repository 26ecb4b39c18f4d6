use Rattle.std.proofs.Common.{◌≡◌, ◌++◌, map, take}
use Rattle.dnsrows.specs.Scripts.{line_end}
use Rattle.dnsrows.proofs.scripts.push_octets.Given as goal

abbrev pub invariant-octets : goal.invariant-octets
invariant-octets l = l.script.items ≡ l.initial.script.items ++ map line_end (take l.octet-index l.word)
