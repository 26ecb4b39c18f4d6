-- What is skipped.
use Rattle.std.specs.Prelude.{ℕ, Result, Ok, Err}

-- what reading gives, without its value: the place behind it, or the first fault
abbrev pub without_value : {A E : Type 0} → Result (A × ℕ) E → Result (Unit {0} × ℕ) E
without_value (Ok x) = Ok (tt, x.1)
without_value (Err fault) = Err fault
