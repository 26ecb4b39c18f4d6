-- What signing a request comes to, by the length of its record.
use Rattle.std.proofs.Common.{◌≡◌, ◌≢◌, ℕ, ◌+◌, ◌≤◌, ◌<◌, ◌^◌, true, cond, nat_lt, List, ◌++◌, length, drop, Result, Ok, Err}
use Rattle.std.proofs.Common.{ap, sym, ◌∙◌, arith, lt-ltb}
use Rattle.std.specs.Prelude.{Bool}
use Rattle.dns_wire.specs.declared.error.EmitError.{EmitError}
use Rattle.sec_tsig.specs.declared.request_error.RequestError.{RequestError}
use Rattle.sec_tsig.specs.declared.request_error.RequestError.TheVariants as causes
use Rattle.sec_tsig.specs.Requests.{is_request, or_request_cause, request_record_len, signed_or_cause}
use Rattle.sec_tsig.specs.Signers.{Signer, request_record}
use Rattle.sec_tsig.specs.Tsig.{TsigRecord, additional_count, join, with_record, written_record}
use Rattle.sec_tsig.proofs.ByMessage.{HmacHasLength}
use Rattle.dns_wire.specs.Rooms.{filled}
use Rattle.dns_wire.proofs.Rooms.{filled_up, not_filled}
use Rattle.sec_tsig.proofs.Joins.{joined, length-join, long}
use Rattle.sec_tsig.proofs.Signable.{record_is, record_size, request_octets}

-- the cause, or what is signed, of a request whose record is put after it with this result
abbrev cause_if : Bool → Bool → Result (List ℕ) EmitError → Result (List ℕ) RequestError
cause_if early request given =
    cond early (cond request (or_request_cause given) (Err causes.NotARequest)) (Err causes.TimeTooLarge)

pub too_long : HmacHasLength → (signer : Signer) (time : ℕ) (octets : List ℕ) → time < 2 ^ 48
    → is_request octets ≡ true → 12 ≤ length octets → additional_count octets ≢ 65535
    → 65535 < length octets + request_record_len signer
    → signed_or_cause signer time octets ≡ Err causes.MessageTooLong
too_long has signer time octets below request header other much =
    let rr : TsigRecord = request_record signer time octets in
    let early : nat_lt time (2 ^ 48) ≡ true = lt-ltb time (2 ^ 48) below in
    ap (λ (b : Bool). cause_if b (is_request octets) (with_record octets rr)) early
    ∙ ap (λ (b : Bool). cause_if true b (with_record octets rr)) request
    ∙ ap (cause_if true true) (long octets rr (request_octets signer time octets) header other
    (record_is has signer time octets below) (omega (arith, record_size has signer time octets below, much)))

pub signed : HmacHasLength → (signer : Signer) (time : ℕ) (octets : List ℕ) → time < 2 ^ 48
    → is_request octets ≡ true → 12 ≤ length octets → additional_count octets ≢ 65535
    → length octets + request_record_len signer ≤ 65535
    → signed_or_cause signer time octets ≡ Ok (join octets (request_octets signer time octets))
signed has signer time octets below request header other short =
    let rr : TsigRecord = request_record signer time octets in
    let early : nat_lt time (2 ^ 48) ≡ true = lt-ltb time (2 ^ 48) below in
    ap (λ (b : Bool). cause_if b (is_request octets) (with_record octets rr)) early
    ∙ ap (λ (b : Bool). cause_if true b (with_record octets rr)) request
    ∙ ap (cause_if true true) (joined octets rr (request_octets signer time octets) header other
    (record_is has signer time octets below) (omega (arith, record_size has signer time octets below, short)))

-- a room that has the signed request at its start
pub room_filled : HmacHasLength → (signer : Signer) (time : ℕ) (request room octets new : List ℕ) → time < 2 ^ 48
    → 12 ≤ length request → written_record (request_record signer time request) ≡ Ok octets
    → length request + request_record_len signer ≤ length room
    → new ≡ join request octets ++ drop (length request + length octets) room
    → new ≡ filled room (join request octets)
room_filled has signer time request room octets new below header is fits new_is =
    let own : octets ≡ request_octets signer time request = same (sym is ∙ record_is has signer time request below) in
    let size : length (join request octets) ≡ length request + length octets = length-join request octets header in
    let fit : length (join request octets) ≤ length room =
    omega (arith, size, ap length own, record_size has signer time request below, fits) in
    new_is ∙ ap (λ (n : ℕ). join request octets ++ drop n room) (sym size) ∙ sym (filled_up room (join request octets) fit)
  where
    same : (let ok : Result (List ℕ) EmitError = Ok octets in ok) ≡ Ok (request_octets signer time request)
        → octets ≡ request_octets signer time request
    same e = cc

-- a room that has no room for it
pub room_left : HmacHasLength → (signer : Signer) (time : ℕ) (request room octets : List ℕ) → time < 2 ^ 48
    → 12 ≤ length request → written_record (request_record signer time request) ≡ Ok octets
    → length room < length request + request_record_len signer → room ≡ filled room (join request octets)
room_left has signer time request room octets below header is short =
    let own : octets ≡ request_octets signer time request = same (sym is ∙ record_is has signer time request below) in
    let size : length (join request octets) ≡ length request + length octets = length-join request octets header in
    sym (not_filled room (join request octets)
    (omega (arith, size, ap length own, record_size has signer time request below, short)))
  where
    same : (let ok : Result (List ℕ) EmitError = Ok octets in ok) ≡ Ok (request_octets signer time request)
        → octets ≡ request_octets signer time request
    same e = cc
