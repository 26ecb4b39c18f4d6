-- Octets one behind the other.
use Rattle.std.specs.Prelude.{List, ℕ, [], ◌∷◌, ◌++◌, Option, Some, None, Result, Ok, Err}
use Rattle.dns_wire.specs.declared.error.EmitError.{EmitError}

-- octets and those behind them, or the first cause
abbrev pub joined : Result (List ℕ) EmitError → Result (List ℕ) EmitError → Result (List ℕ) EmitError
joined (Ok x) (Ok y) = Ok (x ++ y)
joined (Ok x) (Err e) = Err e
joined (Err e) y = Err e

-- the octets of each of these, one behind the other, or the first cause
abbrev pub each_octets : {A : Type 0} → (A → Result (List ℕ) EmitError) → List A → Result (List ℕ) EmitError
each_octets written [] = Ok []
each_octets written (x ∷ xs) = joined (written x) (each_octets written xs)

-- the octets of one or of none
abbrev pub option_octets : {A : Type 0} → (A → Result (List ℕ) EmitError) → Option A → Result (List ℕ) EmitError
option_octets written None = Ok []
option_octets written (Some x) = written x
