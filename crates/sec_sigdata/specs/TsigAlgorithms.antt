-- The algorithms of TSIG records: their names (RFC 8945 6; IANA, TSIG Algorithm Names), and the MACs that they make.
use Rattle.std.specs.Prelude.{Bool, ℕ, List, [], ◌∷◌, length, codes, Option, Some, None, is_some, Result, Ok, Err}
use Rattle.std.specs.Prelude.{if◌then◌else◌}
use Rattle.std.specs.Str.{bytes_eq}
use Rattle.dns_wire.specs.declared.error.DecodeError.{DecodeError}
use Rattle.dns_names.specs.Names.{wire}
use Rattle.dns_names.specs.Places.{name_at}
use Rattle.dns_wire.specs.Reading.{◌>>=◌}
use Rattle.sec_digest.specs.declared.hmac.HmacHash.{HmacHash}
use Rattle.sec_digest.specs.declared.hmac.HmacHash.TheVariants as hashes
use Rattle.sec_digest.specs.Hmac.{hmac}
use Rattle.sec_sigdata.specs.declared.error.DnsSecError.{DnsSecError}
use Rattle.sec_sigdata.specs.declared.error.DnsSecError.TheVariants as errors
use Rattle.sec_sigdata.specs.declared.tsig_algorithm.TsigAlgorithm.{TsigAlgorithm}
use Rattle.sec_sigdata.specs.declared.tsig_algorithm.TsigAlgorithm.TheVariants.{HmacMd5, Gss, HmacSha1, HmacSha224}
use Rattle.sec_sigdata.specs.declared.tsig_algorithm.TsigAlgorithm.TheVariants.{HmacSha256, HmacSha256_128, HmacSha384}
use Rattle.sec_sigdata.specs.declared.tsig_algorithm.TsigAlgorithm.TheVariants.{HmacSha384_192, HmacSha512}
use Rattle.sec_sigdata.specs.declared.tsig_algorithm.TsigAlgorithm.TheVariants.{HmacSha512_256, Unknown}

-- ---- names

-- the name of an algorithm
abbrev pub algorithm_name : TsigAlgorithm → List (List ℕ)
algorithm_name HmacMd5 = codes "HMAC-MD5" ∷ codes "SIG-ALG" ∷ codes "REG" ∷ codes "INT" ∷ []
algorithm_name Gss = codes "gss-tsig" ∷ []
algorithm_name HmacSha1 = codes "hmac-sha1" ∷ []
algorithm_name HmacSha224 = codes "hmac-sha224" ∷ []
algorithm_name HmacSha256 = codes "hmac-sha256" ∷ []
algorithm_name HmacSha256_128 = codes "hmac-sha256-128" ∷ []
algorithm_name HmacSha384 = codes "hmac-sha384" ∷ []
algorithm_name HmacSha384_192 = codes "hmac-sha384-192" ∷ []
algorithm_name HmacSha512 = codes "hmac-sha512" ∷ []
algorithm_name HmacSha512_256 = codes "hmac-sha512-256" ∷ []
algorithm_name (Unknown n) = n

-- the algorithms that have a name of their own, those that are supported first
abbrev pub named_algorithms : List TsigAlgorithm
named_algorithms =
    HmacSha256 ∷ HmacSha384 ∷ HmacSha512 ∷ HmacMd5 ∷ Gss ∷ HmacSha1 ∷ HmacSha224 ∷ HmacSha256_128 ∷ HmacSha384_192
    ∷ HmacSha512_256 ∷ []

-- The first of a list that has a name, spelled so with the case of its letters, and where none has it the unknown
-- algorithm of that name.
abbrev pub algorithm_among : List TsigAlgorithm → List (List ℕ) → TsigAlgorithm
algorithm_among [] n = Unknown n
algorithm_among (algorithm ∷ rest) n =
    if bytes_eq (wire (algorithm_name algorithm)) (wire n) then algorithm else algorithm_among rest n

-- the algorithm of a name
abbrev pub tsig_algorithm_named : List (List ℕ) → TsigAlgorithm
tsig_algorithm_named = algorithm_among named_algorithms

-- the algorithm whose name is read at a place
abbrev pub algorithm_at : List ℕ → ℕ → Result (TsigAlgorithm × ℕ) DecodeError
algorithm_at m p = name_at m p (length m) >>= λ name. Ok (tsig_algorithm_named name.0, name.1)

-- ---- MACs

-- the hash function of an algorithm that is supported: HMAC with it, the MAC not cut
abbrev pub hash_of : TsigAlgorithm → Option HmacHash
hash_of HmacSha256 = Some hashes.Sha256
hash_of HmacSha384 = Some hashes.Sha384
hash_of HmacSha512 = Some hashes.Sha512
hash_of _ = None

-- whether an algorithm is supported
abbrev pub supported : TsigAlgorithm → Bool
supported algorithm = is_some (hash_of algorithm)

-- the algorithm of HMAC with a hash function, the MAC not cut
abbrev pub algorithm_with : HmacHash → TsigAlgorithm
algorithm_with hashes.Sha256 = HmacSha256
algorithm_with hashes.Sha384 = HmacSha384
algorithm_with hashes.Sha512 = HmacSha512

-- the MAC of a message by an algorithm with this hash function
abbrev pub mac_with : TsigAlgorithm → Option HmacHash → List ℕ → List ℕ → Result (List ℕ) DnsSecError
mac_with algorithm None key message = Err (errors.TsigUnsupportedMacAlgorithm algorithm)
mac_with algorithm (Some hash) key message = Ok (hmac hash key message)

-- the MAC of a message under a key, where the algorithm is supported
abbrev pub mac_of : TsigAlgorithm → List ℕ → List ℕ → Result (List ℕ) DnsSecError
mac_of algorithm = mac_with algorithm (hash_of algorithm)

-- whether a tag is a MAC, all of it
abbrev pub is_mac : List ℕ → List ℕ → Result (Unit {0}) DnsSecError
is_mac tag mac = if bytes_eq tag mac then Ok tt else Err errors.HmacInvalid

-- whether a tag is the MAC of a message under a key, where the algorithm is supported
abbrev pub checked_mac : TsigAlgorithm → List ℕ → List ℕ → List ℕ → Result (Unit {0}) DnsSecError
checked_mac algorithm key message tag = mac_of algorithm key message >>= is_mac tag
