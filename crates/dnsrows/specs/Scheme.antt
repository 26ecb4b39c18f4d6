-- The signatures of this program.
use Rattle.sec_sign.specs.KeyedHashes.{is_hash}
use Rattle.sec_sign.specs.Verifying.{Relation}

-- They are keyed hashes, whatever the algorithm: HMAC with SHA-256 under the octets of the key (RFC 2104).
abbrev pub keyed_hash : Relation
keyed_hash algorithm key message signature = is_hash key message signature
