-- The length of a MAC.
use Rattle.std.proofs.Common.{◌≡◌, ℕ, List, length}
use Rattle.sha2.proofs.Facts256.{length-sha256}
use Rattle.sha2.proofs.Facts512.{length-sha384, length-sha512}
use Rattle.sec_digest.specs.declared.hmac.HmacHash.{HmacHash}
use Rattle.sec_digest.specs.declared.hmac.HmacHash.TheVariants as hashes
use Rattle.sec_digest.specs.Hmac.{hmac, mac_len}

pub length-hmac : (hash : HmacHash) (key message : List ℕ) → length (hmac hash key message) ≡ mac_len hash
unfolding hmac
length-hmac hashes.Sha256 key message = length-sha256 _
length-hmac hashes.Sha384 key message = length-sha384 _
length-hmac hashes.Sha512 key message = length-sha512 _
