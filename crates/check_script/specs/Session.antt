-- The text and the status of a session.
use Rattle.std.specs.Prelude.{ℕ, ◌+◌, List, [], ◌∷◌, ◌++◌, if◌then◌else◌, Result, Ok, Err, is_ok}
use Rattle.std.specs.List.{list_all}
use Rattle.dns_io.specs.declared.status.Status.{Status}
use Rattle.dns_io.specs.declared.status.Status.TheVariants.{ScriptFault, Refused, Accepted}
use Rattle.dns_script.specs.declared.error.ScriptError.{ScriptError}
use Rattle.dns_script.specs.declared.error.ScriptError.TheVariants as errors
use Rattle.dns_script.specs.Faults.{fault_text}
use Rattle.dns_script.specs.Scripts.{script_of}
use Rattle.dns_script.specs.Sessions.{Session, only}
use Rattle.sec_sign.specs.Verifying.{Relation}
use Rattle.sec_check.specs.Reports.{Answered}
use Rattle.check_script.specs.Script.{Script, check_kind}
use Rattle.check_script.specs.Answers.{found}
use Rattle.check_script.specs.Taking.{Taking}
use Rattle.check_script.specs.Text.{request_text, report_text, refused_text}

-- ---- of a script

-- the lines of an answer
abbrev pub answer_text : ℕ → Answered → List ℕ
answer_text number (Ok accepted) = report_text number accepted.report
answer_text number (Err cause) = refused_text number cause

-- the lines of answers, which are numbered from a number on
unfoldable pub answers_text : ℕ → List Answered → List ℕ
answers_text number [] = []
answers_text number (found ∷ others) = answer_text number found ++ answers_text (number + 1) others

-- a text that takes the lines of each answer in
abbrev pub appending : Taking (List ℕ)
appending = record {
  accepted = λ text number report. text ++ report_text number report;
  refused = λ text number cause. text ++ refused_text number cause;
}

-- the signed request, and what the answers come to
abbrev pub script_text : Relation → Script → List ℕ
script_text accepts script = request_text script.request.octets ++ answers_text 1 (found accepts script)

-- whether all answers are accepted
abbrev pub script_status : Relation → Script → Status
script_status accepts script = if list_all is_ok (found accepts script) then Accepted else Refused

-- where a scheme accepts these signatures
abbrev pub script_session : Relation → Session Script
script_session accepts = only (script_text accepts) (script_status accepts)

-- ---- of octets

-- the text of a script, or the one line that names why octets are none
abbrev pub text_of : Relation → Result Script ScriptError → List ℕ
text_of accepts (Ok script) = script_text accepts script
text_of accepts (Err (errors.Fault line reason)) = fault_text line reason
text_of accepts (Err errors.OutOfMemory) = []

abbrev pub status_of : Relation → Result Script ScriptError → Status
status_of accepts (Ok script) = script_status accepts script
status_of accepts (Err _) = ScriptFault

-- the text that octets make, where a scheme accepts these signatures
unfoldable pub session : Relation → List ℕ → List ℕ
session accepts octets = text_of accepts (script_of check_kind octets)

-- the status that they come to
unfoldable pub session_status : Relation → List ℕ → Status
session_status accepts octets = status_of accepts (script_of check_kind octets)

-- this text alone, with this status
abbrev pub check_session : Relation → Session (List ℕ)
check_session accepts = only (session accepts) (session_status accepts)
