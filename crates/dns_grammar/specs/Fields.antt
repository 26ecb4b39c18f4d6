-- The fields of record data: what they are made of, how they stand in octets, how they are read and written
-- (RFC 1035 3.2.1, 3.3).
use Rattle.std.specs.Prelude.{◌≡◌, Bool, true, false, ℕ, zero, suc, ◌-◌, ◌^◌, ◌≤◌, ◌<◌}
use Rattle.std.specs.Prelude.{List, [], ◌∷◌, ◌++◌, length, slice_range, Option, Some, None, unwrap_or, Result, Ok, Err}
use Rattle.std.specs.Prelude.{nat_lt, nat_le, if◌then◌else◌}
use Rattle.std.specs.Int.{Width, w8, w16, w32, to_be_bytes}
use Rattle.dns_wire.specs.declared.error.DecodeError.{DecodeError}
use Rattle.dns_wire.specs.declared.error.EmitError.{EmitError}
use Rattle.dns_wire.specs.declared.error.EmitError.TheVariants.{OutOfMemory, TimeTooLarge, StringTooLong}
use Rattle.dns_wire.specs.Joining.{joined, each_octets}
use Rattle.dns_wire.specs.Lookup.{lookup}
use Rattle.dns_wire.specs.Octets.{six_octets}
use Rattle.dns_names.specs.Names.{wire, low, Same}
use Rattle.dns_names.specs.Places.{NameAt, name_at}
use Rattle.dns_wire.specs.Reading.{◌>>=◌, octets_at, number_at, time_at, counted_at, OctetsAt, NumberAt, TimeAt}
use Rattle.dns_wire.specs.Reading.{CountedAt}

-- ---- what a field is made of, and what it holds

-- how many octets a number has
pub data Size : Type 0 where
  One : Size
  Two : Size
  Four : Size

abbrev pub width : Size → Width
width One = w8
width Two = w16
width Four = w32

-- numbers below it fit
abbrev pub limit : Size → ℕ
limit One = 2 ^ 8
limit Two = 2 ^ 16
limit Four = 2 ^ 32

-- what a field is made of
pub data Kind : Type 0 where
  -- a number
  Number : Size → Kind
  -- a time in six octets (RFC 8945 4.2)
  Time : Kind
  -- so many octets
  Fixed : ℕ → Kind
  -- octets behind their count; and the cause where there are too many for it
  Counted : Size → EmitError → Kind
  -- what is left, as strings behind their counts of one octet (RFC 1035 3.3.14)
  Strings : Kind
  -- the octets that are left
  Rest : Kind
  -- a name whose letters are lowered in canonical form (RFC 4034 6.2)
  LoweredName : Kind
  -- a name that keeps its letters in canonical form
  KeptName : Kind

-- what a field holds
pub data Value : Type 0 where
  Num : ℕ → Value
  Str : List ℕ → Value
  Strs : List (List ℕ) → Value
  Named : List (List ℕ) → Value

-- a field's kind, and the fault of a value that it does not allow
pub record Field : Type 0 where
  pub kind : Kind
  pub fault : Value → Option DecodeError

-- a field that allows every value
abbrev pub any : Kind → Field
any kind = record { kind = kind; fault = λ _. None }

-- the types of records that are known, and the fields of each
abbrev pub Table : Type 0
Table = List (ℕ × List Field)

-- octets that nothing is known of (RFC 3597)
abbrev pub unknown_row : List Field
unknown_row = any Rest ∷ []

-- the fields of a type, where those of a type that the table does not know are unknown octets
abbrev pub row_of : Table → ℕ → List Field
row_of table rtype = unwrap_or (lookup table rtype) unknown_row

-- ---- how fields stand at places

-- strings stand one behind the other from p to q, up to e
abbrev pub StringsAt : List ℕ → ℕ → ℕ → List (List ℕ) → ℕ → Type 0
StringsAt m p e [] q = (e ≤ p) × (q ≡ p)
StringsAt m p e (string ∷ strings) q =
    (p < e) × ((r : ℕ) × CountedAt w8 m p e string r × StringsAt m r e strings q)

-- a value of a kind stands at p of m, where the data end at e, and q is the place behind it
abbrev pub ValueAt : Kind → List ℕ → ℕ → ℕ → Value → ℕ → Type 0
ValueAt (Number size) m p e (Num n) q = NumberAt (width size) m p e n q
ValueAt Time m p e (Num n) q = TimeAt m p e n q
ValueAt (Fixed n) m p e (Str x) q = OctetsAt n m p e x q
ValueAt (Counted size _) m p e (Str x) q = CountedAt (width size) m p e x q
ValueAt Strings m p e (Strs strings) q = StringsAt m p e strings q
ValueAt Rest m p e (Str x) q = (x ≡ slice_range m p e) × (q ≡ e)
ValueAt LoweredName m p e (Named n) q = NameAt m p e n q
ValueAt KeptName m p e (Named n) q = NameAt m p e n q
ValueAt _ m p e _ q = ⊥

-- values that the fields allow stand one behind the other from p to q, where the data end at e
abbrev pub FieldsAt : List Field → List ℕ → ℕ → ℕ → List Value → ℕ → Type 0
FieldsAt [] m p e [] q = q ≡ p
FieldsAt (field ∷ fields) m p e (value ∷ values) q =
    (r : ℕ) × ValueAt field.kind m p e value r × (field.fault value ≡ None) × FieldsAt fields m r e values q
FieldsAt [] m p e (_ ∷ _) q = ⊥
FieldsAt (_ ∷ _) m p e [] q = ⊥

-- ---- how fields are read

-- the strings from p up to e, at most so many
unfoldable pub strings_at : ℕ → List ℕ → ℕ → ℕ → Result (List (List ℕ) × ℕ) DecodeError
strings_at zero m p e = Ok ([], p)
strings_at (suc most) m p e =
    if nat_le e p then Ok ([], p)
    else do
      string ← counted_at w8 m p e
      strings ← strings_at most m string.1 e
      Ok (string.0 ∷ strings.0, strings.1)

-- What reading a value of a kind at p gives: the value and the place behind it, or a fault. The fault is
-- InsufficientBytes where an octet from e on is needed, and a name has its own.
abbrev pub value_at : Kind → List ℕ → ℕ → ℕ → Result (Value × ℕ) DecodeError
value_at (Number size) m p e = number_at (width size) m p e >>= λ x. Ok (Num x.0, x.1)
value_at Time m p e = time_at m p e >>= λ x. Ok (Num x.0, x.1)
value_at (Fixed n) m p e = octets_at n m p e >>= λ x. Ok (Str x.0, x.1)
value_at (Counted size _) m p e = counted_at (width size) m p e >>= λ x. Ok (Str x.0, x.1)
value_at Strings m p e = strings_at (e - p) m p e >>= λ x. Ok (Strs x.0, x.1)
value_at Rest m p e = Ok (Str (slice_range m p e), e)
value_at LoweredName m p e = name_at m p e >>= λ x. Ok (Named x.0, x.1)
value_at KeptName m p e = name_at m p e >>= λ x. Ok (Named x.0, x.1)

-- goes on where there is no fault
abbrev pub no_fault : Option DecodeError → Result (Unit {0}) DecodeError
no_fault None = Ok tt
no_fault (Some fault) = Err fault

-- What reading these fields from p gives: their values and the place behind them, or the first fault from the left. A
-- value that its field does not allow is a fault behind that field.
abbrev pub fields_at : List Field → List ℕ → ℕ → ℕ → Result (List Value × ℕ) DecodeError
fields_at [] m p e = Ok ([], p)
fields_at (field ∷ fields) m p e = do
  value ← value_at field.kind m p e
  _ ← no_fault (field.fault value.0)
  values ← fields_at fields m value.1 e
  Ok (value.0 ∷ values.0, values.1)

-- ---- how fields are written

-- octets behind their count, or this cause where they are too many for it
abbrev pub counted_octets : Size → EmitError → List ℕ → Result (List ℕ) EmitError
counted_octets size too_long x =
    if nat_lt (length x) (limit size) then Ok (to_be_bytes (width size) (length x) ++ x) else Err too_long

-- strings, each behind its count of one octet
abbrev pub strings_octets : List (List ℕ) → Result (List ℕ) EmitError
strings_octets = each_octets (counted_octets One StringTooLong)

-- a name, lowered in canonical form
abbrev pub canonical_name : Bool → List (List ℕ) → List (List ℕ)
canonical_name true n = low n
canonical_name false n = n

-- no octets: a writer of it can only want memory
abbrev pub undefined : Result (List ℕ) EmitError
undefined = Err OutOfMemory

-- the octets of a value in a field of a kind, in canonical form or not, or the cause why there are none
abbrev pub value_octets : Bool → Kind → Value → Result (List ℕ) EmitError
value_octets canonical (Number size) (Num n) = Ok (to_be_bytes (width size) n)
value_octets canonical Time (Num n) = if nat_lt n (2 ^ 48) then Ok (six_octets n) else Err TimeTooLarge
value_octets canonical (Fixed n) (Str x) = Ok x
value_octets canonical (Counted size too_long) (Str x) = counted_octets size too_long x
value_octets canonical Strings (Strs strings) = strings_octets strings
value_octets canonical Rest (Str x) = Ok x
value_octets canonical LoweredName (Named n) = Ok (wire (canonical_name canonical n))
value_octets canonical KeptName (Named n) = Ok (wire n)
value_octets canonical _ _ = undefined

-- the octets of values, one for each field, in canonical form or not, or the cause of the first that can't be written
abbrev pub fields_octets : Bool → List Field → List Value → Result (List ℕ) EmitError
fields_octets canonical [] [] = Ok []
fields_octets canonical (field ∷ fields) (value ∷ values) =
    joined (value_octets canonical field.kind value) (fields_octets canonical fields values)
fields_octets canonical _ _ = undefined

-- ---- when values agree

-- equal, where a name that canonical form lowers need only be the same name
abbrev pub SameValue : Kind → Value → Value → Type 0
SameValue LoweredName (Named n) (Named z) = Same n z
SameValue _ v w = v ≡ w

-- so place by place
abbrev pub SameValues : List Field → List Value → List Value → Type 0
SameValues [] [] [] = Unit {0}
SameValues (field ∷ fields) (v ∷ vs) (w ∷ ws) = SameValue field.kind v w × SameValues fields vs ws
SameValues _ _ _ = ⊥
