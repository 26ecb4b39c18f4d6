-- What an error prints: the name of its variant, and what that holds.
use Rattle.std.specs.Prelude.{ℕ, List, codes}
use Rattle.rrsig_input.specs.declared.input_error.InputError.{InputError}
use Rattle.rrsig_input.specs.declared.input_error.InputError.TheVariants as input_errors

abbrev pub input_error_text : InputError → List ℕ
input_error_text input_errors.NoMessage = codes "NoMessage"
input_error_text input_errors.NoRrsig = codes "NoRrsig"
input_error_text input_errors.LabelsExceedOwner = codes "LabelsExceedOwner"
input_error_text input_errors.DataTooLong = codes "DataTooLong"
