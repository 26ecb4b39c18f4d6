-- The session of octets is one text and one status.
use Rattle.std.proofs.Common.{◌≡◌, ℕ, List, Result, Ok, Err}
use Rattle.dns_io.specs.declared.status.Status.{Status}
use Rattle.dns_script.specs.declared.error.ScriptError.{ScriptError}
use Rattle.dns_script.specs.declared.error.ScriptError.TheVariants as errors
use Rattle.dns_script.specs.Scripts.{script_of}
use Rattle.dns_script.specs.ScriptSessions.{read_session, session_of}
use Rattle.sec_sign.specs.Verifying.{Relation}
use Rattle.check_script.specs.Script.{Script, check_kind}
use Rattle.check_script.specs.Session.{check_session, script_session, session, session_status, status_of, text_of}

of_read : (accepts : Relation) (read : Result Script ScriptError) (text : List ℕ) (status : Status)
    → read_session (script_session accepts) read text status
    → (text ≡ text_of accepts read) × (status ≡ status_of accepts read)
of_read accepts (Ok script) text status is = is
of_read accepts (Err (errors.Fault line reason)) text status is = is
of_read accepts (Err errors.OutOfMemory) text status is = absurd is

pub of_octets : (accepts : Relation) (octets text : List ℕ) (status : Status)
    → session_of check_kind (script_session accepts) octets text status → check_session accepts octets text status
unfolding session_of session session_status
of_octets accepts octets text status is = of_read accepts (script_of check_kind octets) text status is
