-- A line of a script is read, or has a fault.
use Rattle.std.proofs.Common.{◌≢◌, ℕ, ◌^◌, Option, Some, None, is_some, List, ◌++◌, ◌∷◌, [], Result, Ok, Err}
use Rattle.std.specs.Prelude.{codes}
use Rattle.std.specs.Option.{ok_or}
use Rattle.std.specs.Result.{result_ok}
use Rattle.std.specs.Str.{bytes_eq}
use Rattle.dns_wire.specs.Reading.{◌>>=◌}
use Rattle.dns_names.specs.NameText.{name_from_text}
use Rattle.dns_text.specs.Words.{words, two_words, four_words, number_below, decode_hex}
use Rattle.dns_script.specs.declared.error.LineError.{LineError}
use Rattle.dns_script.specs.declared.error.LineError.TheVariants.{Fault}
use Rattle.dns_script.specs.declared.error.ScriptError.TheVariants as errors
use Rattle.dns_script.specs.declared.reason.Reason.TheVariants as reasons
use Rattle.dns_script.specs.Scripts.{script_of}
use Rattle.dns_script.proofs.ReadOrFaulty.{IsSaidOrFault, needed, next, either}
use Rattle.dns_script.proofs.ReadOrFaulty.{never_out_of_memory as kind_is_read}
use Rattle.sec_anchor.specs.declared.parse_error.ParseError.{ParseError}
use Rattle.sec_anchor.specs.Entries.{EntryData, entries_of}
use Rattle.sec_tsig.specs.Requests.{signed_request}
use Rattle.sec_tsig.specs.Signers.{Signer}
use Rattle.sec_tsig.specs.Verdict.{TsigChain}
use Rattle.script_lines.specs.Lines.{anchor_entries, anchor_text}
use Rattle.signer_lines.specs.Keys.{hash_named, key_words}
use Rattle.signer_lines.specs.Requests.{SignedRequest, or_faulty, request_words}
use Rattle.check_script.specs.Script.{Answer, ScriptSoFar, add, add_anchor, add_key, add_request, add_request_by}
use Rattle.check_script.specs.Script.{add_answer, answer_words, check_kind}

anchors : (read : Result (List EntryData) ParseError) → IsSaidOrFault (anchor_entries read)
anchors (Ok entries) = tt
anchors (Err cause) = tt

keys : (others : List (List ℕ)) → IsSaidOrFault (key_words others)
keys others =
    next _ _ (needed (four_words others) reasons.Key) (λ w.
    next _ _ (needed (hash_named w.0) reasons.Key) (λ algorithm.
    next _ _ (needed (result_ok (name_from_text w.1)) reasons.Key) (λ name.
    next _ _ (needed (number_below (2 ^ 16) w.2) reasons.Key) (λ fudge.
    next _ _ (needed (decode_hex w.3) reasons.Key) (λ key. tt)))))

signed : (request : Option (List ℕ × TsigChain)) → IsSaidOrFault (or_faulty request)
signed (Some request) = tt
signed None = tt

requests : (signer : Signer) (others : List (List ℕ)) → IsSaidOrFault (request_words signer others)
requests signer others =
    next _ _ (needed (two_words others) reasons.Request) (λ w.
    next _ _ (needed (number_below (2 ^ 48) w.0) reasons.Request) (λ time.
    next _ _ (needed (decode_hex w.1) reasons.Request) (λ octets. signed (signed_request signer time octets))))

answers : (others : List (List ℕ)) → IsSaidOrFault (answer_words others)
answers others =
    next _ _ (needed (two_words others) reasons.Answer) (λ w.
    next _ _ (needed (number_below (2 ^ 32) w.0) reasons.Answer) (λ moment.
    next _ _ (needed (decode_hex w.1) reasons.Answer) (λ octets. tt)))

request_added : (script : ScriptSoFar) (signer : Option Signer) (text : List ℕ)
    → IsSaidOrFault (add_request_by script signer text)
request_added script None text = tt
request_added script (Some signer) text =
    either (is_some script.request) _ _ tt (next _ _ (requests signer (words text)) (λ request. tt))

added : (script : ScriptSoFar) (word text : List ℕ) → IsSaidOrFault (add script word text)
added script word text =
    either (bytes_eq word (codes "anchor")) _ _
    (either (is_some script.signer) _ _ tt (next _ _ (anchors (entries_of text)) (λ entries. tt)))
    (either (bytes_eq word (codes "key")) _ _
    (either (is_some script.signer) _ _ tt (next _ _ (keys (words text)) (λ signer. tt)))
    (either (bytes_eq word (codes "request")) _ _ (request_added script script.signer text)
    (either (bytes_eq word (codes "answer")) _ _
    (either (is_some script.request) _ _ (next _ _ (answers (words text)) (λ answer. tt)) tt) tt)))

pub never_out_of_memory : (octets : List ℕ) → script_of check_kind octets ≢ Err errors.OutOfMemory
never_out_of_memory = kind_is_read check_kind added
