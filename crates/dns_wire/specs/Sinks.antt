-- What a call put into what takes octets in.
use Rattle.std.specs.Prelude.{◌≡◌, ℕ, List, ◌++◌, Result, Ok, Err}
use Rattle.dns_wire.specs.declared.error.EmitError.{EmitError}

-- Whatever the sink was made for and had taken in, it has now taken in these octets behind that.
abbrev pub Takes : {Sink Purpose : Type 0} → (Sink → Purpose → List ℕ → Type 0) → Sink → Sink → List ℕ → Type 0
Takes {Sink} {Purpose} has_taken old new octets =
    (purpose : Purpose) (m : List ℕ) → has_taken old purpose m → has_taken new purpose (m ++ octets)

-- Ok: the sink has taken in the octets that are written. An error is the one for which nothing is written, and then the
-- sink has taken in some octets.
abbrev pub Puts : {Sink Purpose : Type 0} → (Sink → Purpose → List ℕ → Type 0) → Result (Unit {0}) EmitError
    → Sink → Sink → Result (List ℕ) EmitError → Type 0
Puts has_taken (Ok _) old new (Ok octets) = Takes has_taken old new octets
Puts has_taken (Ok _) old new (Err e) = ⊥
Puts has_taken (Err e) old new written = ((some : List ℕ) × Takes has_taken old new some) × (written ≡ Err e)
