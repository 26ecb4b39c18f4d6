-- HMAC (RFC 2104) over the hash functions of FIPS 180-4, and what a contract sees of a keyed hasher.
use Rattle.std.specs.Prelude.{ℕ, ◌-◌, List, ◌++◌, length, map, replicate, bit_xor, nat_lt, if◌then◌else◌}
use Rattle.sha2.specs.Sha256.{sha256}
use Rattle.sha2.specs.Sha512.{sha384, sha512}
use Rattle.sha2.specs.Hashers.{Holds256, Holds384, Holds512}
use Rattle.sec_digest.specs.declared.hmac.HmacHash.{HmacHash}
use Rattle.sec_digest.specs.declared.hmac.HmacHash.TheVariants as hashes
use Rattle.sec_digest.specs.declared.hmac.State.{State}
use Rattle.sec_digest.specs.declared.hmac.State.TheVariants as states
use Rattle.sec_digest.specs.declared.hmac.Hmac.{Hmac}

-- the hash function, H in RFC 2104
abbrev pub hash_of : HmacHash → List ℕ → List ℕ
hash_of hashes.Sha256 = sha256
hash_of hashes.Sha384 = sha384
hash_of hashes.Sha512 = sha512

-- the length of a block of the hash function in octets, B in RFC 2104 (FIPS 180-4, section 1)
abbrev pub block_len : HmacHash → ℕ
block_len hashes.Sha256 = 64
block_len hashes.Sha384 = 128
block_len hashes.Sha512 = 128

-- the length of a MAC in octets, L in RFC 2104
abbrev pub mac_len : HmacHash → ℕ
mac_len hashes.Sha256 = 32
mac_len hashes.Sha384 = 48
mac_len hashes.Sha512 = 64

-- the octets that ipad and opad repeat (RFC 2104, section 2)
abbrev pub inner_pad : ℕ
inner_pad = 0x36

abbrev pub outer_pad : ℕ
outer_pad = 0x5c

-- a key filled with zeros up to n octets, each octet xor the pad
unfoldable pub padded_key : ℕ → List ℕ → ℕ → List ℕ
padded_key n key pad = map (λ octet. bit_xor octet pad) (key ++ replicate (n - length key) 0)

-- the key that fits a block: its digest where it is longer (RFC 2104, section 2)
abbrev pub short_key : HmacHash → List ℕ → List ℕ
short_key hash key = if nat_lt (block_len hash) (length key) then hash_of hash key else key

-- K xor ipad and K xor opad of RFC 2104, section 2, for a key of any length
abbrev pub key_block : HmacHash → List ℕ → ℕ → List ℕ
key_block hash key pad = padded_key (block_len hash) (short_key hash key) pad

-- the MAC of a message under a key: H(K xor opad, H(K xor ipad, text)) (RFC 2104, section 2)
unfoldable pub hmac : HmacHash → List ℕ → List ℕ → List ℕ
hmac hash key message =
    hash_of hash (key_block hash key outer_pad
    ++ hash_of hash (key_block hash key inner_pad ++ message))

-- the inner hasher holds the inner block and the message, and the outer one the outer block
abbrev pub HasTaken : State → HmacHash → List ℕ → List ℕ → Type 0
HasTaken (states.Sha256 keyed) hashes.Sha256 key message =
    Holds256 keyed.inner (key_block hashes.Sha256 key inner_pad ++ message)
    × Holds256 keyed.outer (key_block hashes.Sha256 key outer_pad)
HasTaken (states.Sha384 keyed) hashes.Sha384 key message =
    Holds384 keyed.inner (key_block hashes.Sha384 key inner_pad ++ message)
    × Holds384 keyed.outer (key_block hashes.Sha384 key outer_pad)
HasTaken (states.Sha512 keyed) hashes.Sha512 key message =
    Holds512 keyed.inner (key_block hashes.Sha512 key inner_pad ++ message)
    × Holds512 keyed.outer (key_block hashes.Sha512 key outer_pad)
HasTaken _ _ key message = ⊥

-- the hasher was made for this hash function and this key, and has taken in this message
pub record Feeds (hasher : Hmac) (hash : HmacHash) (key message : List ℕ) : Type 0 where
  pub taken : HasTaken hasher.state hash key message
