-- Sets of the algorithms that are taken. A set is seen as the sum of 2^i over its members, i being their place in the
-- list of the seven.
use Rattle.std.specs.Prelude.{Bool, false, ◌==◌, ◌≡◌, ◌↔◌, ◌⊎◌, IsTrue, Contains, ℕ, List, [], ◌∷◌, ◌++◌, codes, Option}
use Rattle.std.specs.Prelude.{Some, None, filter}
use Rattle.std.specs.Int.{bit_at}
use Rattle.std.specs.List.{flat_map}
use Rattle.std.specs.Option.{option_map_or}
use Rattle.sec_codes.specs.declared.algorithm.Algorithm.{Algorithm}
use Rattle.sec_codes.specs.declared.algorithm.Algorithm.TheVariants.{RSASHA1, RSASHA1NSEC3SHA1, RSASHA256, RSASHA512}
use Rattle.sec_codes.specs.declared.algorithm.Algorithm.TheVariants.{ECDSAP256SHA256, ECDSAP384SHA384, ED25519}
use Rattle.sec_codes.specs.Algorithms.{text, supported}

-- the algorithms that a set may have, in the order in which members are listed
abbrev pub seven : List Algorithm
seven = RSASHA1 ∷ RSASHA256 ∷ RSASHA1NSEC3SHA1 ∷ RSASHA512 ∷ ECDSAP256SHA256 ∷ ECDSAP384SHA384 ∷ ED25519 ∷ []

-- the place of an algorithm among the seven, from 0
abbrev pub place : Algorithm → Option ℕ
place RSASHA1 = Some 0
place RSASHA256 = Some 1
place RSASHA1NSEC3SHA1 = Some 2
place RSASHA512 = Some 3
place ECDSAP256SHA256 = Some 4
place ECDSAP384SHA384 = Some 5
place ED25519 = Some 6
place _ = None

-- whether an algorithm is in a set
abbrev pub has : ℕ → Algorithm → Bool
has s a = option_map_or (λ i. bit_at s i == 1) (place a) false

-- the members, in the order of the seven
abbrev pub members : ℕ → List Algorithm
members s = filter (has s) seven

-- the members as text: each name, and a comma and a space behind it
abbrev pub set_text : ℕ → List ℕ
set_text s = flat_map (λ a. text a ++ codes ", ") (members s)

-- the members are those of a list that are supported
abbrev pub IsSetOf : ℕ → List Algorithm → Type 0
IsSetOf s algorithms = (a : Algorithm) → IsTrue (has s a) ↔ (Contains algorithms a × IsTrue (supported a))

-- the new set has the members of the old one and, where it is supported, one more algorithm
abbrev pub Adds : ℕ → ℕ → Algorithm → Type 0
Adds old new added = (a : Algorithm) → IsTrue (has new a)
    ↔ (IsTrue (has old a) ⊎ ((a ≡ added) × IsTrue (supported added)))
