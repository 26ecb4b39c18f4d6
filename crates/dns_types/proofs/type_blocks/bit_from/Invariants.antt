use Rattle.std.proofs.Common.{◌≡◌, ◌≤◌, ◌<◌, ◌-◌, ◌*◌, length, false, ℕ}
use Rattle.dns_types.specs.TypeSets.{has_type_bit}
use Rattle.dns_types.proofs.type_blocks.bit_from.Given as goal

abbrev pub invariant-loop-bit : goal.invariant-loop-bit
invariant-loop-bit l = record {
  ahead : l.from ≤ l.bit;
  others : (k : ℕ) → l.from ≤ k → k < l.bit → has_type_bit l.bits k ≡ false;
}

abbrev pub decreases-loop-bit : goal.decreases-loop-bit
decreases-loop-bit l = 8 * length l.bits - l.bit
