-- The data of a record copied out of its octets in canonical form (RFC 4034 6.2), field by field.
use Rattle.std.specs.Prelude.{◌≡◌, Bool, true, false, ℕ, List, [], ◌++◌, ◌+◌, length, Result, Ok, Err, nat_eq, nat_lt}
use Rattle.std.specs.Prelude.{if◌then◌else◌}
use Rattle.dns_wire.specs.declared.error.DecodeError.{DecodeError}
use Rattle.dns_wire.specs.declared.error.EmitError.{EmitError}
use Rattle.dns_grammar.specs.Fields.{Kind, LoweredName, KeptName, Value, Field, fields_at, fields_octets, row_of}
use Rattle.dns_grammar.specs.Fields.{undefined}
use Rattle.dns_grammar.specs.Messages.{RecordHead}
use Rattle.dns_rdata.specs.RDataTable.{rdata_table}
use Rattle.message_walk.specs.declared.data_error.DataError.{DataError}
use Rattle.message_walk.specs.declared.data_error.DataError.TheVariants.{NoRecord, DataTooLong}

-- What a call that puts data behind those of a buffer answers: Ok, and the buffer holds what is given; or the cause why
-- nothing is given.
abbrev pub Puts : Result (Unit {0}) DataError → List ℕ → Result (List ℕ) DataError → Type 0
Puts (Ok _) held given = given ≡ Ok held
Puts (Err cause) held given = given ≡ Err cause

-- What a call that puts data to a buffer leaves there: the data that are given; or nothing, where it answers the cause
-- why there are none.
abbrev pub Fills : Result (Unit {0}) DataError → List ℕ → Result (List ℕ) DataError → Type 0
Fills (Ok _) held given = given ≡ Ok held
Fills (Err cause) held given = (given ≡ Err cause) × (held ≡ [])

-- the octets of values that were read, in canonical form; none where nothing was read
abbrev pub read_octets : List Field → Result (List Value × ℕ) DecodeError → Result (List ℕ) EmitError
read_octets fields (Ok values) = fields_octets true fields values.0
read_octets fields (Err _) = undefined

-- the octets of the values of these fields that stand from p of m, in canonical form
unfoldable pub canonical_from : List Field → List ℕ → ℕ → ℕ → Result (List ℕ) EmitError
canonical_from fields m p e = read_octets fields (fields_at fields m p e)

-- octets behind those that are held, or DataTooLong where there are none, or too many for a record
abbrev pub put : List ℕ → Result (List ℕ) EmitError → Result (List ℕ) DataError
put held (Ok octets) = if nat_lt 65535 (length (held ++ octets)) then Err DataTooLong else Ok (held ++ octets)
put held (Err _) = Err DataTooLong

-- the kind of a name that canonical form lowers, or keeps
abbrev pub name_kind : Bool → Kind
name_kind true = LoweredName
name_kind false = KeptName

-- any kind but a name
abbrev pub NoName : Kind → Type 0
NoName LoweredName = ⊥
NoName KeptName = ⊥
NoName _ = Unit {0}

-- the type of a record, and how many octets its data have
abbrev pub type_and_length : RecordHead → ℕ × ℕ
type_and_length head = (head.rtype, head.data_length)

-- The octets in canonical form of so many octets of data from p, in a record of this type; NoRecord where they pass the
-- end.
abbrev pub data_behind : ℕ → ℕ → List ℕ → ℕ → Result (List ℕ) DataError
data_behind rtype n m p =
    if nat_eq n 0 then Ok []
    else if nat_lt (length m) (p + n) then Err NoRecord
    else put [] (canonical_from (row_of rdata_table rtype) m p (p + n))
