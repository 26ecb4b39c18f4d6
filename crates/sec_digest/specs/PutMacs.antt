-- The MAC of a value's octets.
use Rattle.std.specs.Prelude.{◌≡◌, ℕ, List, Result, Ok, Err}
use Rattle.dns_wire.specs.declared.error.EmitError.{EmitError}
use Rattle.sec_digest.specs.declared.hmac.HmacHash.{HmacHash}
use Rattle.sec_digest.specs.declared.mac.Mac.{Mac}
use Rattle.sec_digest.specs.Hmac.{hmac}
use Rattle.sec_digest.specs.Mac.{mac_octets}

-- Ok: the MAC of the octets that are written under the key; an error is the one for which nothing is written.
abbrev pub MacOf : Result Mac EmitError → HmacHash → List ℕ → Result (List ℕ) EmitError → Type 0
MacOf (Ok mac) hash key (Ok octets) = mac_octets mac ≡ hmac hash key octets
MacOf (Ok mac) hash key (Err e) = ⊥
MacOf (Err e) hash key written = written ≡ Err e
