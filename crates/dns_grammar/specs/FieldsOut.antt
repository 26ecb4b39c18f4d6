-- Fields that are to be written.
use Rattle.std.specs.Prelude.{Bool, ℕ, List, Result}
use Rattle.dns_wire.specs.declared.error.EmitError.{EmitError}
use Rattle.dns_grammar.specs.declared.field_out.FieldOut.{FieldOut}
use Rattle.dns_grammar.specs.declared.field_out.FieldOut.TheVariants as fields
use Rattle.dns_grammar.specs.Fields.{One, Two, Four, Kind, Number, Time, Counted, Strings, Rest, LoweredName, KeptName}
use Rattle.dns_wire.specs.Joining.{each_octets}
use Rattle.dns_grammar.specs.Fields.{Value, Num, Str, Strs, Named, value_octets}

-- the field that is written
abbrev pub kind_of : FieldOut → Kind
kind_of (fields.U8 n) = Number One
kind_of (fields.U16 n) = Number Two
kind_of (fields.U32 n) = Number Four
kind_of (fields.Time n) = Time
kind_of (fields.Octets x) = Rest
kind_of (fields.Counted8 x too_long) = Counted One too_long
kind_of (fields.Counted16 x too_long) = Counted Two too_long
kind_of (fields.Strings x) = Strings
kind_of (fields.LoweredName n) = LoweredName
kind_of (fields.KeptName n) = KeptName

-- what it holds
abbrev pub value_of : FieldOut → Value
value_of (fields.U8 n) = Num n
value_of (fields.U16 n) = Num n
value_of (fields.U32 n) = Num n
value_of (fields.Time n) = Num n
value_of (fields.Octets x) = Str x.now
value_of (fields.Counted8 x too_long) = Str x.now
value_of (fields.Counted16 x too_long) = Str x.now
value_of (fields.Strings x) = Strs x.now
value_of (fields.LoweredName n) = Named n.now
value_of (fields.KeptName n) = Named n.now

-- the octets of a field, in canonical form or not, or the cause why it can't be written
abbrev pub field_out_octets : Bool → FieldOut → Result (List ℕ) EmitError
field_out_octets canonical field = value_octets canonical (kind_of field) (value_of field)

-- the octets of these fields, in canonical form or not, or the cause of the first that can't be written
abbrev pub fields_out_octets : Bool → List FieldOut → Result (List ℕ) EmitError
fields_out_octets canonical = each_octets (field_out_octets canonical)
