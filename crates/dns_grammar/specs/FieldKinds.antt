-- The fields that the code's tables stand for.
use Rattle.std.specs.Prelude.{List, map}
use Rattle.dns_grammar.specs.declared.check.FieldKind.{FieldKind}
use Rattle.dns_grammar.specs.declared.check.FieldKind.TheVariants as forms
use Rattle.dns_grammar.specs.Fields.{One, Two, Four, Number, Time, Fixed, Counted, Strings, Rest, LoweredName, KeptName, Field}
use Rattle.dns_grammar.specs.Fields.{any}

-- a field, and for a tested one what it stands for
abbrev pub kind_field : {T : Type 0} → (T → Field) → FieldKind T → Field
kind_field tested forms.U8 = any (Number One)
kind_field tested forms.U16 = any (Number Two)
kind_field tested forms.U32 = any (Number Four)
kind_field tested forms.Time = any Time
kind_field tested (forms.Fixed n) = any (Fixed n)
kind_field tested (forms.Counted8 too_long) = any (Counted One too_long)
kind_field tested (forms.Counted16 too_long) = any (Counted Two too_long)
kind_field tested forms.Strings = any Strings
kind_field tested forms.Octets = any Rest
kind_field tested forms.LoweredName = any LoweredName
kind_field tested forms.KeptName = any KeptName
kind_field tested (forms.Tested test) = tested test

-- each of them
abbrev pub kind_fields : {T : Type 0} → (T → Field) → List (FieldKind T) → List Field
kind_fields tested = map (kind_field tested)
