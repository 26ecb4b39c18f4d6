-- What an error prints: the name of its variant, and what that holds.
use Rattle.std.specs.Prelude.{ℕ, List, ◌++◌, codes}
use Rattle.std.specs.Fmt.{decimal}
use Rattle.dns_script.specs.declared.error.ScriptError.{ScriptError}
use Rattle.dns_script.specs.declared.error.ScriptError.TheVariants as script_errors
use Rattle.dns_script.specs.Faults.{reason_word}

abbrev pub script_error_text : ScriptError → List ℕ
script_error_text (script_errors.Fault line reason) =
    codes "Fault " ++ decimal line ++ codes " " ++ reason_word reason
script_error_text script_errors.OutOfMemory = codes "OutOfMemory"
