-- Tables by number, as registries are.
use Rattle.std.specs.Prelude.{ℕ, List, [], ◌∷◌, nat_eq, if◌then◌else◌, Option, Some, None}

-- the value beside the first such number
abbrev pub lookup : {A : Type 0} → List (ℕ × A) → ℕ → Option A
lookup [] n = None
lookup (entry ∷ table) n = if nat_eq entry.0 n then Some entry.1 else lookup table n
