-- What an error prints: the name of its variant, and what that holds.
use Rattle.std.specs.Prelude.{ℕ, List, codes}
use Rattle.message_walk.specs.declared.data_error.DataError.{DataError}
use Rattle.message_walk.specs.declared.data_error.DataError.TheVariants as data_errors

abbrev pub data_error_text : DataError → List ℕ
data_error_text data_errors.NoRecord = codes "NoRecord"
data_error_text data_errors.DataTooLong = codes "DataTooLong"
