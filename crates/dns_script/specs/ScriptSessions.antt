-- What comes of the octets of a script: the text of its session and the status, or the one line that names its fault.
use Rattle.std.specs.Prelude.{◌≡◌, ℕ, List, Result, Ok, Err}
use Rattle.dns_io.specs.declared.status.Status.TheVariants.{ScriptFault}
use Rattle.dns_script.specs.declared.error.ScriptError.{ScriptError}
use Rattle.dns_script.specs.declared.error.ScriptError.TheVariants as errors
use Rattle.dns_script.specs.Faults.{fault_text}
use Rattle.dns_script.specs.Scripts.{ScriptKind, script_of}
use Rattle.dns_script.specs.Sessions.{Session}

-- what may come of a script; of octets that are none, the one line that names the fault
abbrev pub read_session : {Script : Type 0} → Session Script → Session (Result Script ScriptError)
read_session session (Ok script) text status = session script text status
read_session session (Err (errors.Fault line reason)) text status = (text ≡ fault_text line reason)
    × (status ≡ ScriptFault)
read_session session (Err errors.OutOfMemory) text status = ⊥

-- what may come of octets
unfoldable pub session_of : {Said Script : Type 0} → ScriptKind Said Script → Session Script → Session (List ℕ)
session_of kind session octets = read_session session (script_of kind octets)
