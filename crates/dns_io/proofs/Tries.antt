-- Calls that are tried again: those before the last moved nothing.
use Rattle.std.proofs.Common.{◌≡◌, ℕ, true, List, ◌++◌, take, Option, None, Some, Result, Ok, Err, sym, ap, ◌∙◌}
use Rattle.std.proofs.KnownBytes.{Keeps-trans}
use Rattle.std.specs.declared.io.Error.{Error}
use Rattle.std.specs.Io.KnownBytes.{Appends, Consumes, Keeps, ReadConsumes, WriteAppends}
use Rattle.dns_io.specs.Interruptions.{was_interrupted}

kept_consumes : (a b c : Option (List ℕ)) (octets : List ℕ) → Keeps a b → Consumes b c octets → Consumes a c octets
kept_consumes None b c octets kept read = tt
kept_consumes (Some x) None c octets kept read = absurd kept
kept_consumes (Some x) (Some y) None octets kept read = absurd read
kept_consumes (Some x) (Some y) (Some z) octets kept read = sym kept ∙ read

kept_appends : (a b c : Option (List ℕ)) (octets : List ℕ) → Keeps a b → Appends b c octets → Appends a c octets
kept_appends None b c octets kept wrote = tt
kept_appends (Some x) None c octets kept wrote = absurd kept
kept_appends (Some x) (Some y) None octets kept wrote = absurd wrote
kept_appends (Some x) (Some y) (Some z) octets kept wrote = wrote ∙ ap (λ (l : List ℕ). l ++ octets) kept

-- the last read is that of all tries
pub read_at_last : (a b c : Option (List ℕ)) (answer : Result ℕ Error) (piece : List ℕ) → Keeps a b
    → ReadConsumes b c answer piece → ReadConsumes a c answer piece
read_at_last a b c (Ok n) piece kept read = (kept_consumes a b c (take n piece) kept read.0, read.1)
read_at_last a b c (Err e) piece kept read = Keeps-trans a b c kept read

-- the last write is that of all tries
pub written_at_last : (a b c : Option (List ℕ)) (answer : Result ℕ Error) (piece : List ℕ) → Keeps a b
    → WriteAppends b c answer piece → WriteAppends a c answer piece
written_at_last a b c (Ok n) piece kept wrote = kept_appends a b c (take n piece) kept wrote
written_at_last a b c (Err e) piece kept wrote = Keeps-trans a b c kept wrote

-- an interrupted read moved nothing
pub read_interrupted : (a b c : Option (List ℕ)) (answer : Result ℕ Error) (piece : List ℕ)
    → was_interrupted answer ≡ true → Keeps a b → ReadConsumes b c answer piece → Keeps a c
read_interrupted a b c (Ok n) piece is kept read = absurd cc
read_interrupted a b c (Err e) piece is kept read = Keeps-trans a b c kept read

-- an interrupted write moved nothing
pub write_interrupted : (a b c : Option (List ℕ)) (answer : Result ℕ Error) (piece : List ℕ)
    → was_interrupted answer ≡ true → Keeps a b → WriteAppends b c answer piece → Keeps a c
write_interrupted a b c (Ok n) piece is kept wrote = absurd cc
write_interrupted a b c (Err e) piece is kept wrote = Keeps-trans a b c kept wrote
