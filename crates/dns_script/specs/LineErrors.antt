-- The errors of lines, and what a call on one line answers.
use Rattle.std.specs.Prelude.{◌≡◌, ◌⊎◌, ℕ, Result, Ok, Err}
use Rattle.dns_script.specs.declared.error.LineError.{LineError}
use Rattle.dns_script.specs.declared.error.LineError.TheVariants.{Fault, OutOfMemory}
use Rattle.dns_script.specs.declared.error.ScriptError.{ScriptError}
use Rattle.dns_script.specs.declared.error.ScriptError.TheVariants as errors

-- Ok made of what the lines so far say what the definition gives; an error is out of memory or the definition's.
abbrev pub Adds : {Said : Type 0} → Result (Unit {0}) LineError → Said → Result Said LineError → Type 0
Adds (Ok _) new given = given ≡ Ok new
Adds (Err cause) new given = (cause ≡ OutOfMemory) ⊎ (given ≡ Err cause)

-- a line's error with its number
abbrev pub numbered : ℕ → LineError → ScriptError
numbered number (Fault reason) = errors.Fault number reason
numbered number OutOfMemory = errors.OutOfMemory

-- what a line adds, or its fault with its number
abbrev pub at_line : {Said : Type 0} → ℕ → Result Said LineError → Result Said ScriptError
at_line number (Ok said) = Ok said
at_line number (Err error) = Err (numbered number error)
