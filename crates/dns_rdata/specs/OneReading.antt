-- That the canonical octets of data tell which data they are of (RFC 4034 6.2).
use Rattle.std.specs.Prelude.{◌≡◌, ◌↔◌, ℕ, ◌+◌, Bool, true, ◌&&◌, List, [], ◌∷◌, ◌++◌, length, Option, Ok}
use Rattle.dns_wire.specs.Octets.{AreOctets}
use Rattle.dns_grammar.specs.Fields.{Value, Table}
use Rattle.dns_grammar.specs.RecordData.{RDataAt, rdata_at, plain, canon, Agree}
use Rattle.dns_grammar.specs.Laws.{rest_is_last}

-- whether no field but the last takes all that is left, in each type that the table knows
abbrev pub rests_are_last : Table → Bool
rests_are_last [] = true
rests_are_last (row ∷ table) = rest_is_last row.1 && rests_are_last table

-- Data of one type, which stand in strings of octets, have equal canonical octets exactly where they agree.
abbrev pub OneReading : Table → Type 0
OneReading table = (m n : List ℕ) (p q len size rtype : ℕ) (rdata other : Option (List Value)) (x y : List ℕ)
    → AreOctets m → AreOctets n → RDataAt table m p len rtype rdata → RDataAt table n q size rtype other
    → canon table rtype rdata ≡ Ok x → canon table rtype other ≡ Ok y → (x ≡ y) ↔ Agree table rtype rdata other

-- Data that were read of octets can be written, and what is written of them is read as the same data, wherever it
-- stands.
abbrev pub IsReadAgain : Table → Type 0
IsReadAgain table = (m : List ℕ) (p len rtype : ℕ) (rdata : Option (List Value)) (q : ℕ)
    → AreOctets m → rdata_at table m p len rtype ≡ Ok (rdata, q)
    → (x : List ℕ) × (plain table rtype rdata ≡ Ok x)
    × ((front back : List ℕ)
    → rdata_at table (front ++ (x ++ back)) (length front) (length x) rtype ≡ Ok (rdata, length front + length x))
