-- What a contract sees of an encoder, and what its calls write.
use Rattle.std.specs.Prelude.{Bool, ◌≡◌, ◌⊎◌, ℕ, List, ◌+◌, ◌++◌, length, take, drop, Result, Ok, Err}
use Rattle.dns_wire.specs.declared.encoder.NameEncoding.{NameEncoding}
use Rattle.dns_wire.specs.declared.error.EmitError.{EmitError}
use Rattle.dns_wire.specs.declared.error.EmitError.TheVariants.{OutOfMemory}

-- the octets so far, how names are written, and whether record data are written in canonical form
pub record Output : Type 0 where
  pub octets : List ℕ
  pub name_encoding : NameEncoding
  pub canonical_form : Bool

-- Ok put these octets at the end and left the rest, and a refused call changed nothing.
abbrev pub Appends : Result (Unit {0}) EmitError → Output → Output → List ℕ → Type 0
Appends (Ok _) old new octets = new ≡ record old { octets = old.octets ++ octets }
Appends (Err e) old new octets = (e ≡ OutOfMemory) × (new ≡ old)

-- Ok put the octets that are written at the end; an error is want of memory, or the one for which nothing is written,
-- and changed nothing.
abbrev pub Writes : Result (Unit {0}) EmitError → Output → Output → Result (List ℕ) EmitError → Type 0
Writes (Ok _) old new (Ok octets) = new ≡ record old { octets = old.octets ++ octets }
Writes (Ok _) old new (Err e) = ⊥
Writes (Err e) old new written = (new ≡ old) × ((e ≡ OutOfMemory) ⊎ (written ≡ Err e))

-- the octets from a place on, replaced by as many others
abbrev pub paste : List ℕ → ℕ → List ℕ → List ℕ
paste octets place others = take place octets ++ others ++ drop (place + length others) octets
