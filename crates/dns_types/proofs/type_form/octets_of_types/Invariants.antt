use Rattle.std.proofs.Common.{◌≡◌, ℕ, take}
use Rattle.dns_types.specs.TypeSets.{has_type_bit, is_one_of}
use Rattle.dns_types.proofs.type_form.octets_of_types.Given as goal

abbrev pub invariant-loop-rtype : goal.invariant-loop-rtype
invariant-loop-rtype l = (n : ℕ) → has_type_bit l.bits n ≡ is_one_of (take l.rtype-index l.types) n
