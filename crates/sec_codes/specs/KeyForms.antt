-- The forms of public keys: RSA (RFC 3110 2), ECDSA (RFC 6605 4), Ed25519 (RFC 8080 3).
use Rattle.std.specs.Prelude.{◌≡◌, ◌⊎◌, ◌==◌, nat_le, if◌then◌else◌, ℕ, ◌+◌, ◌*◌, ◌^◌, ◌<◌, List, [], ◌∷◌, ◌++◌, length}
use Rattle.std.specs.Prelude.{take, drop, Option, Some, None, Result, Ok, Err}
use Rattle.dns_wire.specs.Octets.{two_octets}
use Rattle.sec_codes.specs.declared.algorithm.Algorithm.{Algorithm}
use Rattle.sec_codes.specs.declared.algorithm.Algorithm.TheVariants.{RSASHA1, RSASHA1NSEC3SHA1, RSASHA256, RSASHA512}
use Rattle.sec_codes.specs.declared.algorithm.Algorithm.TheVariants.{ECDSAP256SHA256, ECDSAP384SHA384, ED25519}
use Rattle.sec_codes.specs.declared.key_error.KeyError.{KeyError}
use Rattle.sec_codes.specs.declared.key_error.KeyError.TheVariants.{UnsupportedAlgorithm, WrongLength, BadRsaKey}
use Rattle.sec_codes.specs.declared.key_error.KeyKind.{KeyKind}
use Rattle.sec_codes.specs.declared.key_error.KeyKind.TheVariants.{Ec, Ed, Rsa}
use Rattle.sec_codes.specs.Algorithms.{number}

-- a public key: its octets, as a DNSKEY record has them, and its algorithm
pub record Key : Type 0 where
  pub octets : List ℕ
  pub algorithm : Algorithm

-- Octets are an RSA key of this exponent and modulus: the exponent's length in one octet, or a zero octet and the
-- length in two, then the exponent, then the modulus. One octet holds 1 to 255.
abbrev pub IsRsa : List ℕ → List ℕ → List ℕ → Type 0
IsRsa key e n =
    ((0 < length e) × (length e < 2 ^ 8) × (key ≡ length e ∷ (e ++ n)))
    ⊎ ((length e < 2 ^ 16) × (key ≡ 0 ∷ (two_octets (length e) ++ (e ++ n))))

-- the first octets, so many, and the rest, where there are so many
abbrev pub parted : ℕ → List ℕ → Option (List ℕ × List ℕ)
parted count octets = if nat_le count (length octets) then Some (take count octets, drop count octets) else None

-- the exponent and the modulus behind a zero octet
abbrev pub long_parts : List ℕ → Option (List ℕ × List ℕ)
long_parts (high ∷ low ∷ rest) = parted (high * 256 + low) rest
long_parts _ = None

-- the exponent and the modulus of an RSA key
abbrev pub rsa_parts : List ℕ → Option (List ℕ × List ℕ)
rsa_parts [] = None
rsa_parts (first ∷ rest) = if first == 0 then long_parts rest else parted first rest

-- a key of so many octets
abbrev pub of_length : ℕ → KeyKind → List ℕ → Result KeyKind KeyError
of_length n kind key = if length key == n then Ok kind else Err (WrongLength n (length key))

-- a key that has an exponent and a modulus
abbrev pub with_parts : Option (List ℕ × List ℕ) → Result KeyKind KeyError
with_parts (Some _) = Ok Rsa
with_parts None = Err BadRsaKey

-- the form of a key of Ed25519, or why it lacks it
abbrev pub ed_form : List ℕ → Result KeyKind KeyError
ed_form = of_length 32 Ed

-- the form of a key of ECDSA: the two coordinates of a point
abbrev pub ec_form : Algorithm → List ℕ → Result KeyKind KeyError
ec_form ECDSAP256SHA256 key = of_length 64 Ec key
ec_form ECDSAP384SHA384 key = of_length 96 Ec key
ec_form a key = Err (UnsupportedAlgorithm (number a))

-- the form of a key of RSA
abbrev pub rsa_form : Algorithm → List ℕ → Result KeyKind KeyError
rsa_form RSASHA1 key = with_parts (rsa_parts key)
rsa_form RSASHA1NSEC3SHA1 key = with_parts (rsa_parts key)
rsa_form RSASHA256 key = with_parts (rsa_parts key)
rsa_form RSASHA512 key = with_parts (rsa_parts key)
rsa_form a key = Err (UnsupportedAlgorithm (number a))

-- the form of an algorithm's key
abbrev pub key_form : Algorithm → List ℕ → Result KeyKind KeyError
key_form ED25519 key = ed_form key
key_form ECDSAP256SHA256 key = ec_form ECDSAP256SHA256 key
key_form ECDSAP384SHA384 key = ec_form ECDSAP384SHA384 key
key_form a key = rsa_form a key
