-- The calls on transaction signatures (RFC 8945).
use Rattle.std.specs.Prelude.{ℕ, ◌^◌, ◌-◌, List, codes, if◌then◌else◌, Result, Ok, Err}
use Rattle.std.specs.Option.{ok_or}
use Rattle.std.specs.Str.{bytes_eq}
use Rattle.dns_text.specs.Words.{two_words, three_words, four_words}
use Rattle.dns_wire.specs.Reading.{◌>>=◌}
use Rattle.sec_sigdata.specs.TsigAlgorithms.{tsig_algorithm_named}
use Rattle.sec_sigdata.specs.TsigErrors.{optional_error}
use Rattle.sec_tsig.specs.Signers.{Signer, message_id, signed_later, signer_of}
use Rattle.sec_tsig.specs.Requests.{signed_or_cause}
use Rattle.sec_tsig.specs.Responses.{Signed, WithServerTime, WrongMac, WrongKey, reply_record}
use Rattle.sec_tsig.specs.Tsig.{TsigRecord, with_record}
use Rattle.sec_tsig.specs.declared.sign_error.TsigSignError.{TsigSignError}
use Rattle.dns_rows.specs.declared.refusal.Refusal.{Refusal}
use Rattle.dns_rows.specs.declared.refusal.Refusal.TheVariants.{NoCall}
use Rattle.dns_rows.specs.Refusals.{emit_refusal, mac_refusal, request_refusal, response_refusal, with_refusal}
use Rattle.dns_rows.specs.Rows.{hex_word}
use Rattle.dns_rows.specs.CallWords.{first_four, name_in, number_in, octets_in}
use Rattle.dnsrows.specs.Messages.{is_message}

-- who signs: the name of an algorithm, a key, its name, and the fudge of what is signed
abbrev pub signer_in : List ℕ → List ℕ → List ℕ → List ℕ → Result Signer Refusal
signer_in algorithm key name fudge = do
  algorithm_name ← name_in algorithm
  octets ← octets_in key
  key_name ← name_in name
  seconds ← number_in (2 ^ 16) fudge
  with_refusal mac_refusal (signer_of octets (tsig_algorithm_named algorithm_name) key_name seconds)

-- a number of 64 bits but the last
abbrev pub time_in : List ℕ → Result ℕ Refusal
time_in = number_in (2 ^ 64 - 1)

-- the octets of a message (RFC 1035 section 4.1)
abbrev pub response_in : List ℕ → Result (List ℕ) Refusal
response_in word = do
  octets ← octets_in word
  _ ← is_message octets
  Ok octets

-- a message with a TSIG record after it, or why there is none
abbrev pub followed_by_tsig : List ℕ → TsigRecord → Result (List ℕ) Refusal
followed_by_tsig octets tsig = do
  whole ← with_refusal emit_refusal (with_record octets tsig)
  Ok (hex_word whole)

-- the same of a response with the record that signs it
abbrev pub signed_response : List ℕ → Result TsigRecord TsigSignError → Result (List ℕ) Refusal
signed_response octets signed = do
  tsig ← with_refusal response_refusal signed
  followed_by_tsig octets tsig

-- ---- calls

-- `request ALGORITHM KEY NAME FUDGE TIME HEX`
abbrev pub request_answer : List (List ℕ) → Result (List ℕ) Refusal
request_answer others = do
  s ← first_four others
  w ← ok_or (two_words s.4) NoCall
  signer ← signer_in s.0 s.1 s.2 s.3
  time ← time_in w.0
  octets ← octets_in w.1
  signed ← with_refusal request_refusal (signed_or_cause signer time octets)
  Ok (hex_word signed)

-- `respond ALGORITHM KEY NAME FUDGE TIME MAC ERROR HEX`
abbrev pub respond_answer : List (List ℕ) → Result (List ℕ) Refusal
respond_answer others = do
  s ← first_four others
  w ← ok_or (four_words s.4) NoCall
  signer ← signer_in s.0 s.1 s.2 s.3
  time ← time_in w.0
  mac ← octets_in w.1
  error ← number_in (2 ^ 16) w.2
  response ← response_in w.3
  signed_response response (reply_record (message_id response) time (Signed signer mac (optional_error error)) response)

-- `respond-later ALGORITHM KEY NAME FUDGE TIME MAC HEX`
abbrev pub later_answer : List (List ℕ) → Result (List ℕ) Refusal
later_answer others = do
  s ← first_four others
  w ← ok_or (three_words s.4) NoCall
  signer ← signer_in s.0 s.1 s.2 s.3
  time ← time_in w.0
  mac ← octets_in w.1
  response ← response_in w.2
  signed_response response (signed_later signer mac response (message_id response) time)

-- `respond-bad-time ALGORITHM KEY NAME FUDGE TIME MAC SERVERTIME HEX`
abbrev pub bad_time_answer : List (List ℕ) → Result (List ℕ) Refusal
bad_time_answer others = do
  s ← first_four others
  w ← ok_or (four_words s.4) NoCall
  signer ← signer_in s.0 s.1 s.2 s.3
  time ← time_in w.0
  mac ← octets_in w.1
  server_time ← time_in w.2
  response ← response_in w.3
  signed_response response (reply_record (message_id response) time (WithServerTime signer mac server_time) response)

-- `respond-bad-signature ALGORITHM KEY NAME FUDGE TIME HEX`
abbrev pub bad_signature_answer : List (List ℕ) → Result (List ℕ) Refusal
bad_signature_answer others = do
  s ← first_four others
  w ← ok_or (two_words s.4) NoCall
  signer ← signer_in s.0 s.1 s.2 s.3
  time ← time_in w.0
  response ← response_in w.1
  signed_response response (reply_record (message_id response) time (WrongMac signer) response)

-- `respond-unknown-key NAME TIME HEX`
abbrev pub unknown_key_answer : List (List ℕ) → Result (List ℕ) Refusal
unknown_key_answer others = do
  w ← ok_or (three_words others) NoCall
  name ← name_in w.0
  time ← time_in w.1
  response ← response_in w.2
  signed_response response (reply_record (message_id response) time (WrongKey name) response)

-- what the call of this word answers
abbrev pub transaction_calls : List ℕ → List (List ℕ) → Result (List ℕ) Refusal
transaction_calls word others =
    if bytes_eq word (codes "request") then request_answer others
    else if bytes_eq word (codes "respond") then respond_answer others
    else if bytes_eq word (codes "respond-later") then later_answer others
    else if bytes_eq word (codes "respond-bad-time") then bad_time_answer others
    else if bytes_eq word (codes "respond-bad-signature") then bad_signature_answer others
    else if bytes_eq word (codes "respond-unknown-key") then unknown_key_answer others
    else Err NoCall
