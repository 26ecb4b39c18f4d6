use Rattle.std.proofs.Common.{◌≡◌, take}
use Rattle.std.specs.Prelude.{◌↔◌}
use Rattle.sec_digest.proofs.mac.same_octets.Given as goal

-- no difference was met exactly where the octets so far are equal
abbrev pub invariant-loop-i : goal.invariant-loop-i
invariant-loop-i l = (l.difference ≡ 0) ↔ (take l.i l.a ≡ take l.i l.b)
