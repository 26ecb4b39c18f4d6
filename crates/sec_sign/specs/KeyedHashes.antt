-- Signatures that are keyed hashes.
use Rattle.std.specs.Prelude.{Bool, ℕ, List}
use Rattle.std.specs.Str.{bytes_eq}
use Rattle.sec_codes.specs.KeyForms.{Key}
use Rattle.sec_digest.specs.declared.hmac.HmacHash.TheVariants.{Sha256}
use Rattle.sec_digest.specs.Hmac.{hmac}
use Rattle.sec_sign.specs.declared.keyed_hash.KeyedHashKey.{KeyedHashKey}

-- whether a signature is the HMAC with SHA-256 of the message under the octets of the key (RFC 2104)
abbrev pub is_hash : List ℕ → List ℕ → List ℕ → Bool
is_hash key message signature = bytes_eq signature (hmac Sha256 key message)

-- the octets of the key and its algorithm
abbrev pub key_of_hash : KeyedHashKey → Key
key_of_hash key = record { octets = key.key; algorithm = key.algorithm }
