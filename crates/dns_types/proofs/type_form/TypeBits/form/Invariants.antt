use Rattle.std.proofs.Common.{◌≡◌}
use Rattle.std.specs.List.{range_with_len, flat_map}
use Rattle.dns_types.specs.TypeSets.{has_type_bit, window_octets}
use Rattle.dns_types.proofs.type_form.TypeBits.form.Given as goal

abbrev pub invariant-loop-window : goal.invariant-loop-window
invariant-loop-window l = l.form.items ≡ flat_map (window_octets (has_type_bit l.bits)) (range_with_len 0 l.window)
