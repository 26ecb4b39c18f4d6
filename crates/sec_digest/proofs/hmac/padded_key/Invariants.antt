use Rattle.std.proofs.Common.{◌≡◌, ◌++◌, ◌-◌, map, take}
use Rattle.std.specs.Prelude.{bit_xor, replicate}
use Rattle.sec_digest.proofs.hmac.padded_key.Given as goal

-- the octets of the key so far, and the pad behind them
abbrev pub invariant-loop-i : goal.invariant-loop-i
invariant-loop-i g l = l.block ≡ map (λ octet. bit_xor octet l.pad) (take l.i l.key) ++ replicate (g.row.N - l.i) l.pad
