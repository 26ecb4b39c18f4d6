-- What a reader of a set of types answers.
use Rattle.std.specs.Prelude.{◌≡◌, ◌⊎◌, ℕ, ◌+◌, ◌≤◌, List, length, Result, Err, IfOk, IsOkAnd}
use Rattle.dns_wire.specs.declared.decoder.BinDecoder.{BinDecoder}
use Rattle.dns_wire.specs.declared.error.DecodeError.{DecodeError}
use Rattle.dns_wire.specs.declared.error.DecodeError.TheVariants.{OutOfMemory}
use Rattle.dns_wire.specs.Reading.{octets, place, ReadsUnless}
use Rattle.dns_types.specs.TypeSets.{TypesAt, type_set_at}

-- The answer of a call that read a set of this length (RFC 4034 4.1.2), shown as its octets: a set, and the decoder
-- behind it; or a fault, and then the decoder is as it was. Want of memory may come in place of any answer.
pub record ReadsTypes (len : ℕ) (old new : BinDecoder) (result : Result (List ℕ) DecodeError) : Type 0 where
  -- what the reading function gives: the set, or the first fault
  pub exact : ReadsUnless (λ set. set) result old new (type_set_at (octets old) (place old) len)
  -- what is answered stands there
  pub found : IfOk result (λ set. (place old + len ≤ length (octets old))
      × TypesAt (octets old) (place old) (place old + len) set (place new))
  -- what stands there is answered
  pub only : (set : List ℕ) (q : ℕ) → place old + len ≤ length (octets old)
      → TypesAt (octets old) (place old) (place old + len) set q
      → (result ≡ Err OutOfMemory) ⊎ IsOkAnd result (λ x. x ≡ set)
