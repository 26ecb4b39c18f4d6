-- What a call wrote that may stop on the way.
use Rattle.std.specs.Prelude.{◌≡◌, ◌⊎◌, ℕ, List, ◌++◌, Result, Ok, Err}
use Rattle.dns_wire.specs.declared.error.EmitError.{EmitError}
use Rattle.dns_wire.specs.declared.error.EmitError.TheVariants.{OutOfMemory}
use Rattle.dns_wire.specs.Writing.{Output}

-- Ok put the octets that are written at the end. An error put some octets there, and is want of memory or the one for
-- which nothing is written.
abbrev pub Grows : Result (Unit {0}) EmitError → Output → Output → Result (List ℕ) EmitError → Type 0
Grows (Ok _) old new (Ok octets) = new ≡ record old { octets = old.octets ++ octets }
Grows (Ok _) old new (Err e) = ⊥
Grows (Err e) old new written =
    (some : List ℕ) × (new ≡ record old { octets = old.octets ++ some }) × ((e ≡ OutOfMemory) ⊎ (written ≡ Err e))
