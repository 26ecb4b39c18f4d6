-- Flags: the bits of a number, each by its value.
use Rattle.std.specs.Prelude.{Bool, not, ℕ, nat_eq, if◌then◌else◌}
use Rattle.std.specs.Int.Bits.{bit_and}

-- whether flags have one
abbrev pub has_flag : ℕ → ℕ → Bool
has_flag flag flags = not (nat_eq (bit_and flags flag) 0)

-- a flag where it is set, and else 0
abbrev pub flag_if : ℕ → Bool → ℕ
flag_if flag set = if set then flag else 0
