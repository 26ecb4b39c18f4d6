-- How many octets are written, and what a call leaves in the caller's room.
use Rattle.std.specs.Prelude.{◌≡◌, ℕ, ◌<◌, ◌≤◌, ◌^◌, min, nat_lt, if◌then◌else◌, List, ◌++◌, length, drop, Result, Ok, Err}
use Rattle.dns_wire.specs.declared.error.EmitError.{EmitError}

-- there are fewer than 2^64 octets, or none for a cause
abbrev pub IsCountable : Result (List ℕ) EmitError → Type 0
IsCountable (Ok octets) = length octets < 2 ^ 64
IsCountable (Err _) = Unit {0}

-- how many octets there are, or as many as a usize counts
abbrev pub counted : List ℕ → ℕ
counted octets = min (length octets) 18446744073709551615

-- Ok: how many octets there are, or as many as a usize counts; an error is the cause for which there are none.
abbrev pub Measures : Result ℕ EmitError → Result (List ℕ) EmitError → Type 0
Measures (Ok n) (Ok octets) = n ≡ counted octets
Measures (Ok n) (Err _) = ⊥
Measures (Err e) written = written ≡ Err e

-- the room with the octets in its first places, where it has room for them; else as it was
abbrev pub filled : List ℕ → List ℕ → List ℕ
filled room octets = if nat_lt (length room) (length octets) then room else octets ++ drop (length octets) room

-- Ok: how many octets there are, and the room has them in its first places where it has room for them all, and is as it
-- was where it hasn't. An error is the cause for which there are none, and the room is as it was.
abbrev pub FillsRoom : Result ℕ EmitError → List ℕ → List ℕ → Result (List ℕ) EmitError → Type 0
FillsRoom (Ok n) old new (Ok octets) = (n ≡ length octets) × (new ≡ filled old octets)
FillsRoom (Ok n) old new (Err _) = ⊥
FillsRoom (Err e) old new written = (written ≡ Err e) × (new ≡ old)

-- there are octets, and the room has room for them
abbrev pub FitsRoom : Result (List ℕ) EmitError → List ℕ → Type 0
FitsRoom (Ok octets) room = length octets ≤ length room
FitsRoom (Err _) room = ⊥

-- Ok: the room has the octets in its first places. There is no error.
abbrev pub FillsStart : Result (Unit {0}) EmitError → List ℕ → List ℕ → Result (List ℕ) EmitError → Type 0
FillsStart (Ok _) old new (Ok octets) = new ≡ octets ++ drop (length octets) old
FillsStart (Ok _) old new (Err _) = ⊥
FillsStart (Err e) old new written = ⊥
