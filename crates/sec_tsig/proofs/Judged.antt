-- What octets come to, by the view of the message in them.
use Rattle.std.proofs.Common.{◌≡◌, ℕ, ◌&&◌, false, ◌==◌, is_none, List, length, Option, Some, None, option_map, Result, Ok}
use Rattle.std.proofs.Common.{Err, refl, ap, ◌∙◌, Bool, true}
use Rattle.dns_wire.specs.declared.error.DecodeError.{DecodeError}
use Rattle.dns_wire.specs.Reading.{◌>>=◌}
use Rattle.dns_grammar.specs.Messages.{Message, Outline, Header, Signature, message_at, signature_of}
use Rattle.dns_rdata.specs.RDataTable.{rdata_table}
use Rattle.dns_message.specs.declared.tsig_view.TsigView.{TsigView}
use Rattle.dns_message.specs.declared.view.MessageView.{MessageView}
use Rattle.dns_message.specs.Views.{header_view, outline_view, outlined, tsig_view, view_end, view_header, view_tsig}
use Rattle.dns_message.proofs.ViewLaws.{has_outline}
use Rattle.sec_tsig.specs.declared.verify_error.VerifyError.{VerifyError}
use Rattle.sec_tsig.specs.declared.verify_error.VerifyError.TheVariants as causes
use Rattle.sec_tsig.specs.Verdict.{with_tsig, with_signature, signed_parts, SignedParts}
use Rattle.sec_tsig.specs.Requests.{is_request, reads_request}

-- a message that is viewed
pub judged_read : {X : Type 0} (found : Header → Signature → Result X VerifyError) (m : List ℕ) (view : MessageView)
    → outlined (message_at rdata_table m) ≡ Ok (outline_view view)
    → with_tsig found (message_at rdata_table m)
    ≡ with_signature found (header_view (view_header view)) (option_map tsig_view (view_tsig view))
judged_read found m view is =
    let has = has_outline m (outline_view view) is in
    ap (with_tsig found) has.read
    ∙ ap (λ (y : Outline × ℕ). with_signature found y.0.header y.0.signature) has.same

-- with a TSIG
pub judged_some : {X : Type 0} (found : Header → Signature → Result X VerifyError) (m : List ℕ) (view : MessageView)
    (tsig : TsigView) → outlined (message_at rdata_table m) ≡ Ok (outline_view view) → view_tsig view ≡ Some tsig
    → with_tsig found (message_at rdata_table m) ≡ found (header_view (view_header view)) (tsig_view tsig)
judged_some found m view tsig is has =
    judged_read found m view is
    ∙ ap (λ t. with_signature found (header_view (view_header view)) (option_map tsig_view t)) has

-- without one
pub judged_none : {X : Type 0} (found : Header → Signature → Result X VerifyError) (m : List ℕ) (view : MessageView)
    → outlined (message_at rdata_table m) ≡ Ok (outline_view view) → view_tsig view ≡ None
    → with_tsig found (message_at rdata_table m) ≡ Err causes.MissingTsig
judged_none found m view is has =
    judged_read found m view is
    ∙ ap (λ t. with_signature found (header_view (view_header view)) (option_map tsig_view t)) has

-- no message
pub judged_fault : {X : Type 0} (found : Header → Signature → Result X VerifyError) (m : List ℕ) (fault : DecodeError)
    → outlined (message_at rdata_table m) ≡ Err fault
    → with_tsig found (message_at rdata_table m) ≡ Err causes.Decode
judged_fault found m fault is = go (message_at rdata_table m) is
  where
    go : (read : Result (Message × ℕ) DecodeError) → outlined read ≡ Err fault
        → with_tsig found read ≡ Err causes.Decode
    go (Ok x) is = absurd cc
    go (Err e) is = refl

-- ---- by the parts of a message that ends in a TSIG

pub parts_some : (m : List ℕ) (view : MessageView) (tsig : TsigView)
    → outlined (message_at rdata_table m) ≡ Ok (outline_view view) → view_tsig view ≡ Some tsig
    → signed_parts (message_at rdata_table m)
    ≡ Ok (record { header = header_view (view_header view); signature = tsig_view tsig })
parts_some = judged_some (λ header signature. Ok (record { header = header; signature = signature }))

pub parts_none : (m : List ℕ) (view : MessageView) → outlined (message_at rdata_table m) ≡ Ok (outline_view view)
    → view_tsig view ≡ None → signed_parts (message_at rdata_table m) ≡ Err causes.MissingTsig
parts_none = judged_none (λ header signature. Ok (record { header = header; signature = signature }))

pub parts_fault : (m : List ℕ) (fault : DecodeError) → outlined (message_at rdata_table m) ≡ Err fault
    → signed_parts (message_at rdata_table m) ≡ Err causes.Decode
parts_fault = judged_fault (λ header signature. Ok (record { header = header; signature = signature }))

pub ruleset parts = (parts_some, parts_none, parts_fault)

-- what octets come to, by these parts
by_parts : {X : Type 0} (found : Header → Signature → Result X VerifyError) (read : Result (Message × ℕ) DecodeError)
    → with_tsig found read ≡ (signed_parts read >>= λ parts. found parts.header parts.signature)
by_parts found (Err fault) = refl
by_parts found (Ok x) = go (signature_of x.0)
  where
    go : (signature : Option Signature) → with_signature found x.0.header signature
        ≡ (with_signature (λ header signature. let ok : Result SignedParts VerifyError
        = Ok (record { header = header; signature = signature }) in ok) x.0.header signature
        >>= λ parts. found parts.header parts.signature)
    go None = refl
    go (Some signature) = refl

pub parts_found : {X : Type 0} (found : Header → Signature → Result X VerifyError) (m : List ℕ) (header : Header)
    (signature : Signature)
    → signed_parts (message_at rdata_table m) ≡ Ok (record { header = header; signature = signature })
    → with_tsig found (message_at rdata_table m) ≡ found header signature
parts_found found m header signature is =
    by_parts found (message_at rdata_table m) ∙ ap (λ r. r >>= λ parts. found parts.header parts.signature) is

pub parts_refused : {X : Type 0} (found : Header → Signature → Result X VerifyError) (m : List ℕ) (cause : VerifyError)
    → signed_parts (message_at rdata_table m) ≡ Err cause
    → with_tsig found (message_at rdata_table m) ≡ Err cause
parts_refused found m cause is =
    by_parts found (message_at rdata_table m) ∙ ap (λ r. r >>= λ parts. found parts.header parts.signature) is

pub ruleset by_view = (parts_found, parts_refused)

-- ---- requests

pub request_read : (m : List ℕ) (view : MessageView) → outlined (message_at rdata_table m) ≡ Ok (outline_view view)
    → is_request m ≡ ((view_end view == length m) && is_none (option_map tsig_view (view_tsig view)))
request_read m view is =
    let has = has_outline m (outline_view view) is in
    ap (reads_request m) has.read
    ∙ ap (λ (y : Outline × ℕ). (y.1 == length m) && is_none y.0.signature) has.same

pub request_fault : (m : List ℕ) (fault : DecodeError) → outlined (message_at rdata_table m) ≡ Err fault
    → is_request m ≡ false
request_fault m fault is = go (message_at rdata_table m) is
  where
    go : (read : Result (Message × ℕ) DecodeError) → outlined read ≡ Err fault → reads_request m read ≡ false
    go (Ok x) is = absurd cc
    go (Err e) is = refl

pub request_bare : (m : List ℕ) (view : MessageView)
    → outlined (message_at rdata_table m) ≡ Ok (outline_view view) → view_tsig view ≡ None
    → is_request m ≡ (view_end view == length m)
request_bare m view is none =
    request_read m view is
    ∙ ap (λ (t : Option TsigView). (view_end view == length m) && is_none (option_map tsig_view t)) none
    ∙ whole (view_end view == length m)
  where
    whole : (b : Bool) → b && true ≡ b
    whole true = refl
    whole false = refl

pub request_signed : (m : List ℕ) (view : MessageView) (tsig : TsigView)
    → outlined (message_at rdata_table m) ≡ Ok (outline_view view) → view_tsig view ≡ Some tsig
    → is_request m ≡ false
request_signed m view tsig is some =
    request_read m view is
    ∙ ap (λ (t : Option TsigView). (view_end view == length m) && is_none (option_map tsig_view t)) some
    ∙ whole (view_end view == length m)
  where
    whole : (b : Bool) → b && false ≡ false
    whole true = refl
    whole false = refl

pub ruleset requests = (request_bare, request_signed, request_fault)
