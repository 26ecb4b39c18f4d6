-- The digest types of DS records, and digests of octets by their hash functions; the hash of NSEC3.
use Rattle.std.specs.Prelude.{Bool, true, false, ℕ, zero, suc, List, [], ◌∷◌, ◌++◌, map, unwrap_or, Result, Ok, Err}
use Rattle.sha1.specs.Sha1.{sha1}
use Rattle.sha2.specs.Sha256.{sha256}
use Rattle.sha2.specs.Sha512.{sha384}
use Rattle.dns_wire.specs.Lookup.{lookup}
use Rattle.dns_wire.specs.Reading.{◌>>=◌}
use Rattle.dns_wire.specs.declared.error.DecodeError.{DecodeError}
use Rattle.dns_wire.specs.declared.error.DecodeError.TheVariants as faults
use Rattle.sec_digest.specs.declared.digest.Digest.{Digest}
use Rattle.sec_digest.specs.declared.digest.Digest.TheVariants as digests
use Rattle.sec_digest.specs.declared.digest_type.DigestType.{DigestType}
use Rattle.sec_digest.specs.declared.digest_type.DigestType.TheVariants as types

-- the number of a digest type (RFC 4034, appendix A.2; RFC 4509, section 2.1; RFC 6605, section 2)
abbrev pub digest_number : DigestType → ℕ
digest_number types.SHA1 = 1
digest_number types.SHA256 = 2
digest_number types.SHA384 = 4
digest_number (types.Unknown n) = n

-- the digest types that have a name of their own
abbrev pub known_types : List DigestType
known_types = types.SHA1 ∷ types.SHA256 ∷ types.SHA384 ∷ []

-- the digest type of a number, which is unknown where none of these has it
abbrev pub digest_type : ℕ → DigestType
digest_type n = unwrap_or (lookup (map (λ kind. (digest_number kind, kind)) known_types) n) (types.Unknown n)

-- whether a digest type is one that is not known
abbrev pub is_unknown : DigestType → Bool
is_unknown (types.Unknown n) = true
is_unknown _ = false

-- the hash function of a digest type, and the refusal of a type that has none here
abbrev pub hash_function : DigestType → Result (List ℕ → List ℕ) DecodeError
hash_function types.SHA1 = Ok sha1
hash_function types.SHA256 = Ok sha256
hash_function types.SHA384 = Ok sha384
hash_function (types.Unknown n) = Err (faults.UnknownDigestAlgorithm n)

-- the length of a digest in octets
abbrev pub digest_len : DigestType → ℕ
digest_len types.SHA1 = 20
digest_len types.SHA256 = 32
digest_len types.SHA384 = 48
digest_len (types.Unknown n) = 0

-- the digest of octets
abbrev pub digest : DigestType → List ℕ → Result (List ℕ) DecodeError
digest kind octets = hash_function kind >>= λ hash. Ok (hash octets)

-- IH(salt, x, k) (RFC 5155, section 5): the hash of x and the salt, and k times more the hash of
-- what came before and the salt
unfoldable pub iterated_hash : (List ℕ → List ℕ) → List ℕ → List ℕ → ℕ → List ℕ
iterated_hash hash salt octets zero = hash (octets ++ salt)
iterated_hash hash salt octets (suc k) = hash (iterated_hash hash salt octets k ++ salt)

-- IH by the hash function of a digest type
abbrev pub iterated_digest : DigestType → List ℕ → List ℕ → ℕ → Result (List ℕ) DecodeError
iterated_digest kind salt octets k =
    hash_function kind >>= λ hash. Ok (iterated_hash hash salt octets k)

-- the octets of a digest
abbrev pub digest_octets : Digest → List ℕ
digest_octets (digests.Sha1 octets) = octets
digest_octets (digests.Sha256 octets) = octets
digest_octets (digests.Sha384 octets) = octets
