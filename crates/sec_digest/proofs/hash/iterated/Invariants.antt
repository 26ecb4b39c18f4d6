use Rattle.std.proofs.Common.{◌≡◌}
use Rattle.sec_digest.specs.Digests.{iterated_hash}
use Rattle.sec_digest.proofs.hash.iterated.Given as goal

-- the rounds so far
abbrev pub invariant-loop : goal.invariant-loop
invariant-loop g l = g.D.AsSlice.items l.digest ≡ iterated_hash g.D.HashOutput.hash l.salt l.octets l.counter
