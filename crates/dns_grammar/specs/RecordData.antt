-- The data of a record (RFC 1035 3.2.1), by a table of the fields of each type.
use Rattle.std.specs.Prelude.{◌≡◌, ◌≢◌, ℕ, ◌+◌, ◌-◌, ◌≤◌, ◌<◌, Bool, true, false, ◌&&◌, not, List, [], length, Option}
use Rattle.std.specs.Prelude.{Some, None}
use Rattle.std.specs.Prelude.{Result, Ok, Err, nat_lt, nat_le, nat_eq, if◌then◌else◌}
use Rattle.dns_wire.specs.declared.error.DecodeError.{DecodeError}
use Rattle.dns_wire.specs.declared.error.DecodeError.TheVariants.{InsufficientBytes, IncorrectRDataLengthRead}
use Rattle.dns_wire.specs.declared.error.EmitError.{EmitError}
use Rattle.dns_wire.specs.declared.error.EmitError.TheVariants.{DataTooLong}
use Rattle.dns_wire.specs.Reading.{◌>>=◌}
use Rattle.dns_types.specs.TypeNumbers as types
use Rattle.dns_grammar.specs.Fields.{Value, Field, Table, row_of, FieldsAt, fields_at, fields_octets, SameValues}

-- the type of a transaction signature (RFC 8945 4.1)
abbrev pub tsig_type : ℕ
tsig_type = types.TSIG

-- ---- where data stand

-- these fields fill the len octets from p of m, which are not none
pub record RowAt (fields : List Field) (m : List ℕ) (p len : ℕ) (values : List Value) : Type 0 where
  pub nonempty : 0 < len
  pub within : p + len ≤ length m
  pub filled : FieldsAt fields m p (p + len) values (p + len)

-- no data stand at p of m, in a record of a type that may have none: every type but TSIG (RFC 2136 2.4, 2.5)
pub record EmptyAt (m : List ℕ) (p len rtype : ℕ) : Type 0 where
  pub empty : len ≡ 0
  pub not_tsig : rtype ≢ tsig_type
  pub within : p ≤ length m

-- data of len octets stand at p of m, in a record of this type
abbrev pub RDataAt : Table → List ℕ → ℕ → ℕ → ℕ → Option (List Value) → Type 0
RDataAt table m p len rtype (Some values) = RowAt (row_of table rtype) m p len values
RDataAt table m p len rtype None = EmptyAt m p len rtype

-- ---- how data are read

-- values and the place behind them, where that is the end of the data
abbrev pub filled_by : ℕ → ℕ → List Value × ℕ → Result (List Value) DecodeError
filled_by p e values = if nat_eq values.1 e then Ok values.0 else Err (IncorrectRDataLengthRead (values.1 - p) (e - p))

-- What reading these fields gives where they fill the octets from p up to e, or the first fault: that of the first
-- field from the left, and then IncorrectRDataLengthRead, with the octets of the fields and the length, where octets
-- are left over.
unfoldable pub fields_filling : List Field → List ℕ → ℕ → ℕ → Result (List Value) DecodeError
fields_filling fields m p e = fields_at fields m p e >>= filled_by p e

-- What reading the data of one known type gives, len octets from p, and the place behind them; or the first fault.
-- InsufficientBytes where fewer octets are left than len, and where len is 0, come before the fields.
unfoldable pub one_type_data_at : List Field → List ℕ → ℕ → ℕ → Result (List Value × ℕ) DecodeError
one_type_data_at fields m p len =
    if nat_lt (length m) (p + len) then Err InsufficientBytes
    else if nat_eq len 0 then Err InsufficientBytes
    else (fields_filling fields m p (p + len) >>= λ values. Ok (values, p + len))

-- whether a record of this type has no data at p of m, and may have none
abbrev pub is_empty_at : List ℕ → ℕ → ℕ → ℕ → Bool
is_empty_at m p len rtype = nat_eq len 0 && (not (nat_eq rtype tsig_type) && nat_le p (length m))

-- What reading the data of a record of this type gives, len octets from p, and the place behind them; or the first
-- fault. Every type but TSIG may have no data. Otherwise they are read as the data of their type.
unfoldable pub rdata_at : Table → List ℕ → ℕ → ℕ → ℕ → Result (Option (List Value) × ℕ) DecodeError
rdata_at table m p len rtype =
    if is_empty_at m p len rtype then Ok (None, p)
    else (one_type_data_at (row_of table rtype) m p len >>= λ values. Ok (Some values.0, values.1))

-- ---- how data are written

-- the octets of data, in canonical form or not; empty data have none
abbrev pub rdata_octets : Bool → List Field → Option (List Value) → Result (List ℕ) EmitError
rdata_octets canonical fields None = Ok []
rdata_octets canonical fields (Some values) = fields_octets canonical fields values

-- the octets of data of this type, names and all as they are, or the first cause from the left why there are none
abbrev pub plain : Table → ℕ → Option (List Value) → Result (List ℕ) EmitError
plain table rtype rdata = rdata_octets false (row_of table rtype) rdata

-- octets that fit a record's length, of two octets
abbrev pub fitting : Result (List ℕ) EmitError → Result (List ℕ) EmitError
fitting (Ok octets) = if nat_lt 65535 (length octets) then Err DataTooLong else Ok octets
fitting (Err cause) = Err cause

-- the octets of data of this type in canonical form (RFC 4034 6.2), or the first cause from the left why there are
-- none, at last DataTooLong
abbrev pub canon : Table → ℕ → Option (List Value) → Result (List ℕ) EmitError
canon table rtype rdata = fitting (rdata_octets true (row_of table rtype) rdata)

-- ---- when data agree

-- both are empty, or have equal values, where names that canonical form lowers need only be the same names
abbrev pub Agree : Table → ℕ → Option (List Value) → Option (List Value) → Type 0
Agree table rtype None None = Unit {0}
Agree table rtype (Some vs) (Some ws) = SameValues (row_of table rtype) vs ws
Agree table rtype _ _ = ⊥
