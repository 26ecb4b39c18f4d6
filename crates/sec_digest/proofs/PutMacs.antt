-- The MAC of what was put.
use Rattle.std.proofs.Common.{◌≡◌, ℕ, List, [], Result, Ok, Err}
use Rattle.dns_wire.specs.declared.error.EmitError.{EmitError}
use Rattle.dns_wire.specs.Sinks.{Puts}
use Rattle.sec_digest.specs.declared.hmac.Hmac.{Hmac}
use Rattle.sec_digest.specs.declared.hmac.HmacHash.{HmacHash}
use Rattle.sec_digest.specs.declared.mac.Mac.{Mac}
use Rattle.sec_digest.specs.Hmac.{Feeds, hmac}
use Rattle.sec_digest.specs.Mac.{mac_octets}
use Rattle.sec_digest.specs.PutMacs.{MacOf}

pub mac_of : (hash : HmacHash) (key : List ℕ) (first last : Hmac) (mac : Mac) (u : Unit {0})
    (written : Result (List ℕ) EmitError) → Feeds first hash key []
    → Puts (λ (hasher : Hmac) (purpose : HmacHash × List ℕ) (m : List ℕ). Feeds hasher purpose.0 purpose.1 m)
    (Ok u) first last written
    → ((h : HmacHash) (k m : List ℕ) → Feeds last h k m → mac_octets mac ≡ hmac h k m)
    → MacOf (Ok mac) hash key written
mac_of hash key first last mac u (Ok octets) made puts value = value hash key octets (puts (hash, key) [] made)
mac_of hash key first last mac u (Err e) made puts value = absurd puts
