-- Calls that a signal interrupted: they moved nothing, and are tried again (POSIX.1, EINTR).
use Rattle.std.specs.Prelude.{ℕ, Bool, true, false, Result, Ok, Err}
use Rattle.std.specs.IoError.{error_kind}
use Rattle.std.specs.declared.io.Error.{Error}
use Rattle.std.specs.declared.io.ErrorKind.{ErrorKind}
use Rattle.std.specs.declared.io.ErrorKind.TheVariants as kinds

abbrev pub is_interruption : ErrorKind → Bool
is_interruption kinds.Interrupted = true
is_interruption _ = false

-- whether a call ended since a signal interrupted it
abbrev pub was_interrupted : Result ℕ Error → Bool
was_interrupted (Ok n) = false
was_interrupted (Err e) = is_interruption (error_kind e)
