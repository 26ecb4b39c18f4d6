-- What was signed passes its check.
use Rattle.std.proofs.Common.{◌≡◌, ℕ, ◌+◌, ◌-◌, ◌^◌, ◌<◌, ◌≤◌, Bool, true, false, cond, nat_lt, List, [], length, Option, Some}
use Rattle.std.proofs.Common.{None, Result, Ok, Err, refl, sym, ap, subst, ◌∙◌, arith}
use Rattle.std.proofs.lemmas.Bool.{ltb-true}
use Rattle.dns_wire.specs.Octets.{six_octets}
use Rattle.dns_wire.specs.Reading.{◌>>=◌}
use Rattle.dns_grammar.proofs.MessageLaws.{message_read}
use Rattle.sec_sigdata.specs.declared.tsig_error.TsigError.{TsigError}
use Rattle.sec_sigdata.specs.declared.tsig_error.TsigError.TheVariants.{BadTime}
use Rattle.sec_sigdata.specs.TsigErrors.{optional_error_number}
use Rattle.sec_sigdata.specs.TsigRecords.{TsigFields}
use Rattle.dns_rdata.specs.RDataTable.{rdata_table}
use Rattle.sec_tsig.specs.declared.sign_error.TsigSignError.{TsigSignError}
use Rattle.sec_tsig.specs.declared.sign_error.TsigSignError.TheVariants as causes
use Rattle.sec_tsig.specs.declared.verify_error.VerifyError.{VerifyError}
use Rattle.sec_tsig.specs.Tsig.{TsigRecord}
use Rattle.sec_tsig.specs.Signers.{Signer, message_id, request_record, signing_record, tsig_by}
use Rattle.sec_tsig.specs.Verdict.{TsigChain, advanced, first_chain, with_tsig, verdict, with_signature}
use Rattle.sec_tsig.specs.Received.{Checked, checked_byte, checked_message}
use Rattle.sec_tsig.specs.Responses.{Reply, Signed, WithServerTime, WrongMac, WrongKey, is_unsigned, reply_record}
use Rattle.sec_tsig.specs.Responses.{signed_reply, tells_time}
use Rattle.sec_tsig.specs.Laws.{IsFresh, IsJoined, IsReplyFor, IsSigner, IsAnswer, LaterPasses, RequestPasses}
use Rattle.sec_tsig.specs.Laws.{ResponsePasses}
use Rattle.sec_tsig.proofs.ByMessage.{HmacHasLength, mac_is_right, valid_is_accepted}
use Rattle.sec_tsig.proofs.SignedRecords.{is_returned, signature_behind}

-- ---- what a test let through

allowed : {X : Type 0} (b : Bool) (r : Result X TsigSignError) (cause : TsigSignError) (x : X)
    → cond b r (Err cause) ≡ Ok x → (b ≡ true) × (r ≡ Ok x)
allowed true r cause x e = (refl, e)
allowed false r cause x e = absurd cc

unrefused : {X : Type 0} (b : Bool) (r : Result X TsigSignError) (cause : TsigSignError) (x : X)
    → cond b (Err cause) r ≡ Ok x → r ≡ Ok x
unrefused true r cause x e = absurd cc
unrefused false r cause x e = e

is_given : {X : Type 0} (x y : X) → ◌≡◌ {A = Result X TsigSignError} (Ok x) (Ok y) → x ≡ y
is_given x y e = cc

-- ---- requests

request_checked : HmacHasLength → (signer : Signer) (time : ℕ) (octets signed : List ℕ)
    → IsSigner signer → time < 2 ^ 48 → (joined : IsJoined octets (request_record signer time octets) signed)
    → checked_message signer None true signed
    ≡ Ok (record {
      mac = (request_record signer time octets).tsig.mac;
      time = time;
      start = time - signer.fudge;
      end = time + signer.fudge;
    })
request_checked length-hmac signer time octets signed is time_fits joined =
    let rr : TsigRecord = request_record signer time octets in
    let after = joined.message in
    let back = is_returned length-hmac signer None true octets time (message_id octets) None [] signed is time_fits
    (omega arith) (omega arith) refl joined in
    ap (with_tsig (checked_byte signer None true signed)) (message_read rdata_table signed after joined.end joined.stands)
    ∙ ap (with_signature (checked_byte signer None true signed) after.header) back.has.is_last
    ∙ ap (λ (r : Result (List ℕ) VerifyError). r >>= answered)
    (mac_is_right length-hmac signer None true signed after.header (signature_behind octets rr) refl refl back.mac)
  where
    answered : List ℕ → Result Checked VerifyError
    answered mac = Ok (record { mac = mac; time = time; start = time - signer.fudge; end = time + signer.fudge })

pub request_passes : HmacHasLength → RequestPasses
request_passes length-hmac signer time octets rr chain signed is given joined =
    let passed = allowed (nat_lt time (2 ^ 48)) (Ok (request_record signer time octets, first_chain signer time octets))
    causes.TimeTooLarge (rr, chain) given in
    let own : request_record signer time octets ≡ rr =
    ap (λ (y : TsigRecord × TsigChain). y.0) (is_given _ (rr, chain) passed.1) in
    subst (λ (x : TsigRecord). IsJoined octets x signed → checked_message signer None true signed
    ≡ Ok (record { mac = x.tsig.mac; time = time; start = time - signer.fudge; end = time + signer.fudge })) own
    (request_checked length-hmac signer time octets signed is (ltb-true _ _ passed.0)) joined

-- ---- answers

-- the record by which a chain's signer signs an answer after the chain's MAC
abbrev answer_record : TsigChain → ℕ → ℕ → Option TsigError → List ℕ → List ℕ → TsigRecord
answer_record chain time oid error other octets =
    signing_record chain.signer (Some chain.mac) chain.first octets (tsig_by chain.signer time oid error other)

-- such an answer is accepted
own_accepted : HmacHasLength → (chain : TsigChain) (time oid : ℕ) (error : Option TsigError) (other octets signed : List ℕ)
    → IsSigner chain.signer → time < 2 ^ 48 → optional_error_number error < 2 ^ 16 → length other < 2 ^ 16
    → chain.time ≤ time
    → IsJoined octets (answer_record chain time oid error other octets) signed
    → IsAnswer chain oid octets (answer_record chain time oid error other octets)
    → verdict chain signed ≡ Ok (advanced chain (answer_record chain time oid error other octets).tsig.mac time)
own_accepted length-hmac chain time oid error other octets signed is time_fits error_fits other_fits order joined answer =
    let back = is_returned length-hmac chain.signer (Some chain.mac) chain.first octets time oid error other signed
    is time_fits error_fits other_fits answer.id joined in
    valid_is_accepted length-hmac chain signed
    (signature_behind octets (answer_record chain time oid error other octets)) (record {
      message = joined.message;
      end = joined.end;
      has = back.has;
      owner = refl;
      algorithm = refl;
      mac = back.mac;
      in_order = order;
      from_start = answer.from_start;
      before_end = answer.before_end;
      response = omega (arith, back.flags, answer.response);
    })

answer_accepted : HmacHasLength → (chain : TsigChain) (time oid : ℕ) (error : Option TsigError) (other octets : List ℕ)
    (rr : TsigRecord) (signed : List ℕ)
    → IsSigner chain.signer → time < 2 ^ 48 → optional_error_number error < 2 ^ 16 → length other < 2 ^ 16
    → chain.time ≤ time → answer_record chain time oid error other octets ≡ rr
    → IsJoined octets rr signed → IsAnswer chain oid octets rr
    → verdict chain signed ≡ Ok (advanced chain rr.tsig.mac rr.tsig.time)
answer_accepted length-hmac chain time oid error other octets rr signed is time_fits error_fits other_fits order own =
    subst (λ (x : TsigRecord). IsJoined octets x signed → IsAnswer chain oid octets x
    → verdict chain signed ≡ Ok (advanced chain x.tsig.mac x.tsig.time)) own
    (own_accepted length-hmac chain time oid error other octets signed is time_fits error_fits other_fits order)

-- what signed_reply gives
reply_given : (signer : Signer) (request_mac octets : List ℕ) (tsig : TsigFields) (rr : TsigRecord)
    → signed_reply signer request_mac octets tsig ≡ Ok rr
    → (tsig.time < 2 ^ 48) × (signing_record signer (Some request_mac) true octets tsig ≡ rr)
reply_given signer request_mac octets tsig rr given =
    let timed = allowed (nat_lt tsig.time (2 ^ 48)) _ causes.TimeTooLarge rr given in
    let counted = allowed (nat_lt (length request_mac) (2 ^ 16)) _ causes.MacTooLong rr timed.1 in
    (ltb-true _ _ timed.0, is_given _ rr counted.1)

-- an answer to a fresh chain
reply_accepted : HmacHasLength → (chain : TsigChain) (signer : Signer) (request_mac : List ℕ) (time oid : ℕ)
    (error : Option TsigError) (other octets : List ℕ) (rr : TsigRecord) (signed : List ℕ)
    → IsSigner chain.signer → IsFresh chain → signer ≡ chain.signer → request_mac ≡ chain.mac
    → optional_error_number error < 2 ^ 16 → length other < 2 ^ 16
    → signed_reply signer request_mac octets (tsig_by signer time oid error other) ≡ Ok rr
    → IsJoined octets rr signed → IsAnswer chain oid octets rr
    → verdict chain signed ≡ Ok (advanced chain rr.tsig.mac rr.tsig.time)
reply_accepted length-hmac chain signer request_mac time oid error other octets rr signed is fresh by mac error_fits
    other_fits given =
    let own = reply_given signer request_mac octets (tsig_by signer time oid error other) rr given in
    answer_accepted length-hmac chain time oid error other octets rr signed is own.0 error_fits other_fits
    (omega (arith, fresh.time))
    ((λ i. signing_record (sym by i) (Some (sym mac i)) (fresh.first i) octets (tsig_by (sym by i) time oid error other))
    ∙ own.1)

pub response_passes : HmacHasLength → ResponsePasses
response_passes length-hmac chain response octets rr signed is fresh = go response.reply
  where
    go : (reply : Reply) → IsReplyFor chain reply
        → reply_record response.request_id response.time reply octets ≡ Ok rr
        → IsJoined octets rr signed → IsAnswer chain response.request_id octets rr
        → verdict chain signed ≡ Ok (advanced chain rr.tsig.mac rr.tsig.time)
    go (Signed signer request_mac error) by given =
        reply_accepted length-hmac chain signer request_mac response.time response.request_id error [] octets rr signed
        is fresh by.0 by.1 by.2 (omega arith)
        (unrefused (tells_time error) _ causes.NeedsServerTime rr
        (unrefused (is_unsigned error) _ (causes.UnsignedError (optional_error_number error)) rr given))
    go (WithServerTime signer request_mac server_time) by given =
        reply_accepted length-hmac chain signer request_mac response.time response.request_id (Some BadTime)
        (six_octets server_time) octets rr signed is fresh by.0 by.1 (omega arith) (omega arith)
        (allowed (nat_lt server_time (2 ^ 48)) _ causes.TimeTooLarge rr given).1
    go (WrongMac signer) by given = absurd by
    go (WrongKey owner) by given = absurd by

pub later_passes : HmacHasLength → LaterPasses
later_passes length-hmac chain id time octets rr signed is later order given =
    let timed = allowed (nat_lt time (2 ^ 48)) _ causes.TimeTooLarge rr given in
    let counted = allowed (nat_lt (length chain.mac) (2 ^ 16)) _ causes.MacTooLong rr timed.1 in
    answer_accepted length-hmac chain time id None [] octets rr signed is (ltb-true _ _ timed.0) (omega arith)
    (omega arith) order
    ((λ i. signing_record chain.signer (Some chain.mac) (later i) octets (tsig_by chain.signer time id None []))
    ∙ is_given _ rr counted.1)
