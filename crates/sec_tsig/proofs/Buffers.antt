-- What is under the MAC of a message that is viewed, and its TSIG record.
use Rattle.std.proofs.Common.{◌≡◌, ℕ, ◌+◌, Bool, List, length, Option, Some, None, Result, Ok, Err, refl, sym, ap}
use Rattle.std.proofs.Common.{◌∙◌}
use Rattle.std.specs.Int.{w16, w32}
use Rattle.std.specs.Prelude.{IsOk}
use Rattle.dns_wire.specs.declared.error.DecodeError.{DecodeError}
use Rattle.dns_wire.specs.Reading.{Gives}
use Rattle.dns_wire.proofs.FieldLaws.{number_read}
use Rattle.dns_names.proofs.PlaceLaws.{name_at_complete}
use Rattle.dns_grammar.specs.Messages.{Header, Message, ResourceRecord, RecordAt, Signature}
use Rattle.dns_grammar.specs.Messages.{last_additional, message_at, signature_of}
use Rattle.dns_grammar.proofs.MessageLaws.{message_stands}
use Rattle.dns_rdata.specs.RDataTable.{rdata_table}
use Rattle.sec_tsig.specs.declared.verify_error.VerifyError.{VerifyError}
use Rattle.sec_tsig.specs.Tsig.{received_input, TsigRecord}
use Rattle.sec_tsig.specs.Verdict.{SignedParts, signed_parts, with_signature}
use Rattle.sec_tsig.specs.Received.{class_and_ttl_at, input_of_last, input_of_read, received_record, signed_input}
use Rattle.sec_tsig.proofs.Ranges.{HasRecord, record_of}

-- what a message with this header comes to that ends in this TSIG or in none
abbrev signed_by : Header → Option Signature → Result SignedParts VerifyError
signed_by = with_signature (λ header signature. Ok (record { header = header; signature = signature }))

-- the class and the TTL of a record that stands
class_and_ttl_read : (m : List ℕ) (p : ℕ) (rr : ResourceRecord) (q : ℕ) → RecordAt rdata_table m p rr q
    → class_and_ttl_at m p ≡ Ok (rr.dns_class, rr.ttl)
unfolding class_and_ttl_at
class_and_ttl_read m p rr q at = rw (
  name_at_complete m p (length m) rr.name at.fixed at.name,
  number_read w16 m at.fixed (length m) rr.rtype (at.fixed + 2) at.rtype,
  number_read w16 m (at.fixed + 2) (length m) rr.dns_class (at.fixed + 4) at.dns_class,
  number_read w32 m (at.fixed + 4) (length m) rr.ttl (at.fixed + 8) at.ttl,
) refl

-- the message that ends in a TSIG, and its record
record Viewed (m : List ℕ) (parts : SignedParts) : Type 0 where
  pub x : Message × ℕ
  pub read : message_at rdata_table m ≡ Ok x
  pub header : x.0.header ≡ parts.header
  pub is_last : signature_of x.0 ≡ Some parts.signature
  pub has : HasRecord m x.0 parts.signature x.1

viewed : (m : List ℕ) (parts : SignedParts) → signed_parts (message_at rdata_table m) ≡ Ok parts → Viewed m parts
viewed m parts is = go (message_at rdata_table m) refl is
  where
    same : (found : SignedParts) → ◌≡◌ {A = Result SignedParts VerifyError} (Ok found) (Ok parts) → found ≡ parts
    same found e = cc

    with_last : (x : Message × ℕ) → message_at rdata_table m ≡ Ok x → (last : Option Signature)
        → signature_of x.0 ≡ last → signed_by x.0.header last ≡ Ok parts → Viewed m parts
    with_last x read None last is = absurd cc
    with_last x read (Some s) last is =
        let own = same (record { header = x.0.header; signature = s }) is in
        let signature : s ≡ parts.signature = ap (λ (p : SignedParts). p.signature) own in
        let is_last : signature_of x.0 ≡ Some parts.signature = last ∙ ap (λ (t : Signature). Some t) signature in
        record {
          x = x;
          read = read;
          header = ap (λ (p : SignedParts). p.header) own;
          is_last = is_last;
          has = record_of m x.0 parts.signature x.1
              (record { stands = message_stands rdata_table m x.0 x.1 read; is_last = is_last });
        }

    go : (read : Result (Message × ℕ) DecodeError) → message_at rdata_table m ≡ read → signed_parts read ≡ Ok parts
        → Viewed m parts
    go (Err fault) read is = absurd cc
    go (Ok x) read is = with_last x read (signature_of x.0) refl is

-- its class and its TTL are read
pub class_and_ttl_viewed : (m : List ℕ) (parts : SignedParts) → signed_parts (message_at rdata_table m) ≡ Ok parts
    → (x : ℕ × ℕ) × (class_and_ttl_at m parts.signature.start ≡ Ok x)
class_and_ttl_viewed m parts is =
    let v = viewed m parts is in
    ((v.has.rr.dns_class, v.has.rr.ttl), class_and_ttl_read m parts.signature.start v.has.rr v.x.1 v.has.stands)

unfoldable value_of : Result (ℕ × ℕ) DecodeError → ℕ × ℕ
value_of (Ok x) = x
value_of (Err _) = (0, 0)

pair_same : (a b c d : ℕ) → ◌≡◌ {A = Result (ℕ × ℕ) DecodeError} (Ok (a, b)) (Ok (c, d)) → (a ≡ c) × (b ≡ d)
unfolding value_of
pair_same a b c d e = (
  ap (λ (r : Result (ℕ × ℕ) DecodeError). (value_of r).0) e,
  ap (λ (r : Result (ℕ × ℕ) DecodeError). (value_of r).1) e,
)

pub input_viewed : (previous : Option (List ℕ)) (first : Bool) (m : List ℕ) (parts : SignedParts) (dns_class ttl : ℕ)
    → signed_parts (message_at rdata_table m) ≡ Ok parts
    → class_and_ttl_at m parts.signature.start ≡ Ok (dns_class, ttl)
    → signed_input previous first m
    ≡ Ok (received_input previous first m parts.header parts.signature, received_record dns_class ttl parts.signature)
input_viewed previous first m parts dns_class ttl is read =
    let v = viewed m parts is in
    let same = pair_same _ _ _ _
    (sym (class_and_ttl_read m parts.signature.start v.has.rr v.x.1 v.has.stands) ∙ read) in
    ap (input_of_read previous first m) v.read
    ∙ ap (λ l. input_of_last previous first m v.x.0.header l (signature_of v.x.0)) v.has.last
    ∙ ap (λ l. input_of_last previous first m v.x.0.header (Some v.has.rr) l) v.is_last
    ∙ (λ i. let ok : Result (List ℕ × TsigRecord) VerifyError = Ok
    (received_input previous first m (v.header i) parts.signature, received_record (same.0 i) (same.1 i) parts.signature)
    in ok)

pub input_refused : (previous : Option (List ℕ)) (first : Bool) (m : List ℕ) (cause : VerifyError)
    → signed_parts (message_at rdata_table m) ≡ Err cause → signed_input previous first m ≡ Err cause
input_refused previous first m cause is = go (message_at rdata_table m) is
  where
    with_last : (header : Header) (rr : Option ResourceRecord) (last : Option Signature)
        → signed_by header last ≡ Err cause → input_of_last previous first m header rr last ≡ Err cause
    with_last header None None is = cc
    with_last header (Some rr) None is = cc
    with_last header rr (Some s) is = absurd cc

    go : (read : Result (Message × ℕ) DecodeError) → signed_parts read ≡ Err cause
        → input_of_read previous first m read ≡ Err cause
    go (Ok x) is = with_last x.0.header (last_additional x.0) (signature_of x.0) is
    go (Err fault) is = cc

-- what is given without a fault
pub given_is_ok : {A E : Type 0} (result given : Result A E) (x : A) → given ≡ Ok x → Gives (λ y. y) result given
    → IsOk result
given_is_ok (Ok y) given x is gives = refl
given_is_ok {A} {E} (Err e) given x is gives = absurd (no (sym is ∙ gives))
  where
    no : (let ok : Result A E = Ok x in ok) ≡ Err e → ⊥
    no a = cc
