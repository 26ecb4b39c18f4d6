-- The algorithms of keys and signatures: their numbers (IANA, DNS Security Algorithm Numbers; RFC 8624 3.1), names and
-- digests.
use Rattle.std.specs.Prelude.{Bool, true, false, ℕ, List, [], ◌∷◌, length, map, codes, Option, Some, None, unwrap_or}
use Rattle.std.specs.Prelude.{Result, Ok}
use Rattle.std.specs.Int.{w8}
use Rattle.dns_wire.specs.declared.error.DecodeError.{DecodeError}
use Rattle.dns_wire.specs.Lookup.{lookup}
use Rattle.dns_wire.specs.Reading.{number_at, ◌>>=◌}
use Rattle.sec_codes.specs.declared.algorithm.Algorithm.{Algorithm}
use Rattle.sec_codes.specs.declared.algorithm.Algorithm.TheVariants.{RSAMD5, DSA, RSASHA1, RSASHA1NSEC3SHA1, RSASHA256}
use Rattle.sec_codes.specs.declared.algorithm.Algorithm.TheVariants.{RSASHA512, ECDSAP256SHA256, ECDSAP384SHA384}
use Rattle.sec_codes.specs.declared.algorithm.Algorithm.TheVariants.{ED25519, Unknown}

-- a row of the table: the number, the name, how many octets the digest has, and whether keys of the algorithm are taken
pub record Row : Type 0 where
  pub number : ℕ
  pub text : List ℕ
  pub hash_len : Option ℕ
  pub supported : Bool

-- the table
abbrev pub row : Algorithm → Row
row RSAMD5 = record { number = 1; text = codes "RSAMD5"; hash_len = Some 16; supported = false }
row DSA = record { number = 3; text = codes "DSA"; hash_len = Some 20; supported = false }
row RSASHA1 = record { number = 5; text = codes "RSASHA1"; hash_len = Some 20; supported = true }
row RSASHA1NSEC3SHA1 = record { number = 7; text = codes "RSASHA1-NSEC3-SHA1"; hash_len = Some 20; supported = true }
row RSASHA256 = record { number = 8; text = codes "RSASHA256"; hash_len = Some 32; supported = true }
row RSASHA512 = record { number = 10; text = codes "RSASHA512"; hash_len = Some 64; supported = true }
row ECDSAP256SHA256 = record { number = 13; text = codes "ECDSAP256SHA256"; hash_len = Some 32; supported = true }
row ECDSAP384SHA384 = record { number = 14; text = codes "ECDSAP384SHA384"; hash_len = Some 48; supported = true }
row ED25519 = record { number = 15; text = codes "ED25519"; hash_len = Some 32; supported = true }
row (Unknown n) = record { number = n; text = codes "Unknown"; hash_len = None; supported = false }

abbrev pub number : Algorithm → ℕ
number a = (row a).number

abbrev pub text : Algorithm → List ℕ
text a = (row a).text

abbrev pub hash_len : Algorithm → Option ℕ
hash_len a = (row a).hash_len

abbrev pub supported : Algorithm → Bool
supported a = (row a).supported

-- the algorithms that have a name of their own
abbrev pub known_algorithms : List Algorithm
known_algorithms =
    RSAMD5 ∷ DSA ∷ RSASHA1 ∷ RSASHA1NSEC3SHA1 ∷ RSASHA256 ∷ RSASHA512 ∷ ECDSAP256SHA256 ∷ ECDSAP384SHA384 ∷
    ED25519 ∷ []

-- the algorithm of a number, which is unknown where none of these has it
abbrev pub algorithm_numbered : ℕ → Algorithm
algorithm_numbered n = unwrap_or (lookup (map (λ a. (number a, a)) known_algorithms) n) (Unknown n)

-- the algorithm whose number is the octet at a place
abbrev pub algorithm_at : List ℕ → ℕ → Result (Algorithm × ℕ) DecodeError
algorithm_at m p = do
  n ← number_at w8 m p (length m)
  Ok (algorithm_numbered n.0, n.1)

-- whether an algorithm is one that is not known
abbrev pub is_unknown : Algorithm → Bool
is_unknown (Unknown n) = true
is_unknown _ = false
