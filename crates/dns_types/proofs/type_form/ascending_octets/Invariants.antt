use Rattle.std.proofs.Common.{◌≡◌, ◌||◌, ℕ, length}
use Rattle.dns_types.specs.TypeSets.{has_type_bit, has_type}
use Rattle.dns_types.proofs.type_form.ascending_octets.Given as goal

abbrev pub invariant-loop-block : goal.invariant-loop-block
invariant-loop-block l = (n : ℕ) → (has_type_bit l.bits n || has_type l.rest n) ≡ has_type l.octets n

abbrev pub decreases-loop-block : goal.decreases-loop-block
decreases-loop-block l = length l.rest
