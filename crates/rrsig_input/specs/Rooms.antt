-- What a call leaves in the caller's buffer.
use Rattle.std.specs.Prelude.{◌≡◌, ℕ, List, length, Result, Ok, Err}
use Rattle.dns_wire.specs.Rooms.{filled}

-- The answer of a call that puts octets into the caller's buffer: how many there are, and the buffer has them in its
-- first places where they all fit, and is as it was where they don't; or the cause why there are none, and the buffer is
-- as it was.
abbrev pub FillsRoom : {E : Type 0} → Result ℕ E → List ℕ → List ℕ → Result (List ℕ) E → Type 0
FillsRoom (Ok n) old new given =
    (octets : List ℕ) × (given ≡ Ok octets) × (n ≡ length octets) × (new ≡ filled old octets)
FillsRoom (Err cause) old new given = (given ≡ Err cause) × (new ≡ old)
