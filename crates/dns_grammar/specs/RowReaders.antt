-- What a reader of the data of a record answers, and what a check of them.
use Rattle.std.specs.Prelude.{◌≡◌, ◌⊎◌, ℕ, ◌+◌, List, Option, Result, Err, IfOk, IsOk, IsOkAnd, OnOk}
use Rattle.dns_wire.specs.declared.decoder.BinDecoder.{BinDecoder}
use Rattle.dns_wire.specs.declared.error.DecodeError.{DecodeError}
use Rattle.dns_wire.specs.declared.error.DecodeError.TheVariants.{OutOfMemory}
use Rattle.dns_wire.specs.Reading.{octets, place, Reads, ReadsUnless}
use Rattle.dns_names.specs.Skipping.{without_value}
use Rattle.dns_grammar.specs.Fields.{Field, Table, Value}
use Rattle.dns_grammar.specs.RecordData.{RowAt, RDataAt, one_type_data_at, rdata_at}

-- ---- the data of one known type

-- The answer of a call that read data of these fields and this length (RFC 1035 3.2.1): a value, shown as the values of
-- the fields, whose codes are those of their numbers, and the decoder behind the data; or a fault, and then the decoder
-- is as it was. Want of memory may come in place of any answer.
pub record ReadsRow {X : Type 0} (fields : List Field) (values : X → List Value) (IsByNumber : X → Type 0) (len : ℕ)
    (old new : BinDecoder) (result : Result X DecodeError) : Type 0 where
  -- what the reading function gives: the values, or the first fault from the left
  pub exact : ReadsUnless values result old new (one_type_data_at fields (octets old) (place old) len)
  -- what is answered stands there
  pub found : IfOk result (λ x. RowAt fields (octets old) (place old) len (values x) × (place new ≡ place old + len))
  -- what stands there is answered
  pub only : (vs : List Value) → RowAt fields (octets old) (place old) len vs
      → (result ≡ Err OutOfMemory) ⊎ IsOkAnd result (λ x. values x ≡ vs)
  -- no code that has a name of its own is called unknown
  pub by_number : IfOk result IsByNumber

-- The answer of a call that checks data of these fields and this length: Ok and the decoder behind them, exactly where
-- values of the fields stand; or a fault, and then the decoder is as it was.
pub record ChecksRow (fields : List Field) (len : ℕ) (old new : BinDecoder) (result : Result (Unit {0}) DecodeError)
    : Type 0 where
  -- what the reading function gives, its values aside
  pub exact : Reads (λ x. x) result old new (without_value (one_type_data_at fields (octets old) (place old) len))
  -- what is let through stands there
  pub found : OnOk result
      ((vs : List Value) × RowAt fields (octets old) (place old) len vs × (place new ≡ place old + len))
  -- what stands there is let through
  pub only : (vs : List Value) → RowAt fields (octets old) (place old) len vs → IsOk result

-- ---- the data of any type, by a table

-- The answer of a call that read data of this length in a record of this type: a value, shown as the data, whose type
-- and codes are those of the record; or a fault, and then the decoder is as it was. Want of memory may come in place of
-- any answer.
pub record ReadsData {X : Type 0} (table : Table) (shown : X → Option (List Value)) (IsByNumber : X → Type 0)
    (rtype len : ℕ) (old new : BinDecoder) (result : Result X DecodeError) : Type 0 where
  -- what the reading function gives: the data, or the first fault from the left
  pub exact : ReadsUnless shown result old new (rdata_at table (octets old) (place old) len rtype)
  -- what is answered stands there
  pub found : IfOk result
      (λ x. RDataAt table (octets old) (place old) len rtype (shown x) × (place new ≡ place old + len))
  -- what stands there is answered
  pub only : (rdata : Option (List Value)) → RDataAt table (octets old) (place old) len rtype rdata
      → (result ≡ Err OutOfMemory) ⊎ IsOkAnd result (λ x. shown x ≡ rdata)
  -- no type and no code that has a name of its own is called unknown
  pub by_number : IfOk result IsByNumber

-- The answer of a call that checks data of this length in a record of this type: Ok and the decoder behind them, exactly
-- where data of the type stand; or a fault, and then the decoder is as it was.
pub record ChecksData (table : Table) (rtype len : ℕ) (old new : BinDecoder) (result : Result (Unit {0}) DecodeError)
    : Type 0 where
  -- what the reading function gives, its values aside
  pub exact : Reads (λ x. x) result old new (without_value (rdata_at table (octets old) (place old) len rtype))
  -- what is let through stands there
  pub found : OnOk result ((rdata : Option (List Value)) × RDataAt table (octets old) (place old) len rtype rdata
      × (place new ≡ place old + len))
  -- what stands there is let through
  pub only : (rdata : Option (List Value)) → RDataAt table (octets old) (place old) len rtype rdata → IsOk result
