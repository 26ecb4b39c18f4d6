-- What the octets of a script say, line by line.
use Rattle.std.specs.Prelude.{ℕ, ◌^◌, List, [], ◌∷◌, ◌++◌, codes, Option, Some, None, is_some, option_map}
use Rattle.std.specs.Prelude.{if◌then◌else◌, Result, Ok, Err}
use Rattle.std.specs.Option.{ok_or}
use Rattle.std.specs.Str.{bytes_eq}
use Rattle.dns_wire.specs.Reading.{◌>>=◌}
use Rattle.dns_text.specs.Words.{words, two_words, number_below, decode_hex}
use Rattle.sec_tsig.specs.Signers.{Signer}
use Rattle.sec_anchor.specs.Entries.{EntryData}
use Rattle.dns_script.specs.declared.error.LineError.{LineError}
use Rattle.dns_script.specs.declared.error.LineError.TheVariants.{Fault}
use Rattle.dns_script.specs.declared.reason.Reason.TheVariants as reasons
use Rattle.dns_script.specs.Scripts.{ScriptKind}
use Rattle.script_lines.specs.Lines.{anchor_text}
use Rattle.signer_lines.specs.Keys.{key_words}
use Rattle.signer_lines.specs.Requests.{SignedRequest, request_words}

-- ---- what a script says

-- an answer, and the moment at which it is checked
pub record Answer : Type 0 where
  pub moment : ℕ
  pub octets : List ℕ

-- the trusted entries, the signed request, and the answers to it
pub record Script : Type 0 where
  pub entries : List EntryData
  pub request : SignedRequest
  pub answers : List Answer

-- the same as far as the lines so far say it, and who signs
pub record ScriptSoFar : Type 0 where
  pub entries : List EntryData
  pub signer : Option Signer
  pub request : Option SignedRequest
  pub answers : List Answer

abbrev pub nothing_said : ScriptSoFar
nothing_said = record { entries = []; signer = None; request = None; answers = [] }

-- ---- what a line adds to what the lines before it say

-- `anchor TEXT`: any number of them, before the key
abbrev pub add_anchor : ScriptSoFar → List ℕ → Result ScriptSoFar LineError
add_anchor script text =
    if is_some script.signer then Err (Fault reasons.Order)
    else (anchor_text text >>= λ entries. Ok (record script { entries = script.entries ++ entries }))

-- `key ALGORITHM NAME FUDGE HEX`: one
abbrev pub add_key : ScriptSoFar → List ℕ → Result ScriptSoFar LineError
add_key script text =
    if is_some script.signer then Err (Fault reasons.Order)
    else (key_words (words text) >>= λ signer. Ok (record script { signer = Some signer }))

-- `request TIME HEX`: one, after the key, which signs it
abbrev pub add_request_by : ScriptSoFar → Option Signer → List ℕ → Result ScriptSoFar LineError
add_request_by script None text = Err (Fault reasons.Order)
add_request_by script (Some signer) text =
    if is_some script.request then Err (Fault reasons.Order)
    else (request_words signer (words text) >>= λ request. Ok (record script { request = Some request }))

abbrev pub add_request : ScriptSoFar → List ℕ → Result ScriptSoFar LineError
add_request script text = add_request_by script script.signer text

-- the words `MOMENT HEX`
abbrev pub answer_words : List (List ℕ) → Result Answer LineError
answer_words others = do
  w ← ok_or (two_words others) (Fault reasons.Answer)
  moment ← ok_or (number_below (2 ^ 32) w.0) (Fault reasons.Answer)
  octets ← ok_or (decode_hex w.1) (Fault reasons.Answer)
  Ok (record { moment = moment; octets = octets })

-- `answer MOMENT HEX`: any number of them, after the request
abbrev pub add_answer : ScriptSoFar → List ℕ → Result ScriptSoFar LineError
add_answer script text =
    if is_some script.request then
    (answer_words (words text) >>= λ answer. Ok (record script { answers = script.answers ++ answer ∷ [] }))
    else Err (Fault reasons.Order)

-- a line, by its first word and the text after it
abbrev pub add : ScriptSoFar → List ℕ → List ℕ → Result ScriptSoFar LineError
add script word text =
    if bytes_eq word (codes "anchor") then add_anchor script text
    else if bytes_eq word (codes "key") then add_key script text
    else if bytes_eq word (codes "request") then add_request script text
    else if bytes_eq word (codes "answer") then add_answer script text
    else Err (Fault reasons.Word)

-- ---- the whole

-- A script has its request.
abbrev pub whole : ScriptSoFar → Option Script
whole script =
    option_map (λ request. record { entries = script.entries; request = request; answers = script.answers }) script.request

abbrev pub check_kind : ScriptKind ScriptSoFar Script
check_kind = record { nothing_said = nothing_said; add = add; whole = whole }
