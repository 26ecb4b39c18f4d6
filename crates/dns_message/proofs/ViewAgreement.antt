-- A view and a message that were read of the same octets agree.
use Rattle.std.proofs.Common.{◌≡◌, ◌⊎◌, inl, inr, ℕ, Bool, true, false, cond, eqb, List, Option, Some, None, option_map}
use Rattle.std.proofs.Common.{option_and_then, Result, Ok, Err, refl, sym, ap, ◌∙◌}
use Rattle.dns_wire.specs.declared.error.DecodeError.{DecodeError}
use Rattle.dns_wire.specs.declared.error.DecodeError.TheVariants.{OutOfMemory}
use Rattle.dns_wire.specs.Reading.{◌>>=◌}
use Rattle.dns_wire.proofs.FieldLaws.{bind_ok, is_ok_same}
use Rattle.dns_grammar.specs.RecordData.{tsig_type}
use Rattle.dns_grammar.specs.Laws.{unplaced_record}
use Rattle.dns_grammar.specs.Messages as grammar
use Rattle.dns_grammar.specs.Messages.{ResourceRecord, Signature, Outline, last_of, signature_with, signature_from}
use Rattle.dns_grammar.specs.Messages.{tsig_from_values, outline_of, message_at}
use Rattle.dns_grammar.proofs.MessageLaws.{message_stands}
use Rattle.dns_rdata.specs.RDataTable.{rdata_table}
use Rattle.sec_sigdata.specs.declared.tsig.TSIG.{TSIG}
use Rattle.dns_message.specs.declared.record.Record.{Record}
use Rattle.dns_message.specs.declared.view.MessageView.{MessageView}
use Rattle.dns_message.specs.Laws.{held_signature, ViewShowsMessage, OneFault}
use Rattle.dns_message.specs.OwnedMessages.{Placed, held, standing}
use Rattle.dns_message.specs.Parts.{Parts, tsig_record_view, message_parts, if_tsig, parts_of, whole}
use Rattle.dns_message.specs.Views.{header_view, view_header, outline_view, outlined}
use Rattle.dns_message.specs.Views.{ViewsMessage}
use Rattle.dns_message.proofs.PartLaws.{whole_of_parts}

-- ---- the signature

abbrev moved : ℕ → Signature → Signature
moved start s = record s { start = start }

-- the data of a record without its place, where the place is known beside
abbrev with_start : Option ResourceRecord → Option ℕ → Option Signature
with_start (Some rr) (Some start) = option_map (moved start) (signature_from rr)
with_start (Some rr) None = None
with_start None start = None

-- the signature of a message, by its last additional and the place of that
by_parts : (o : Option ResourceRecord)
    → option_and_then signature_from o
    ≡ with_start (option_map unplaced_record (option_and_then if_tsig o))
    (option_map (λ rr. rr.start) (option_and_then if_tsig o))
by_parts None = refl
by_parts (Some rr) = go (eqb rr.rtype tsig_type) refl
  where
    same_start : (o : Option grammar.TsigData) → option_map (signature_with rr) o
        ≡ option_map (moved rr.start) (option_map (signature_with (unplaced_record rr)) o)
    same_start None = refl
    same_start (Some tsig) = refl

    go : (b : Bool) → eqb rr.rtype tsig_type ≡ b
        → cond b (option_map (signature_with rr) (tsig_from_values rr.rdata)) None
        ≡ with_start (option_map unplaced_record (cond b (Some rr) None))
        (option_map (λ x. x.start) (cond b (Some rr) None))
    go true is = rw is (same_start (tsig_from_values rr.rdata))
    go false is = refl

-- the signature of a message in memory
of_held : (signature : Option (Record TSIG)) (start : Option ℕ)
    → with_start (option_map tsig_record_view signature) start ≡ held_signature signature start
of_held (Some rr) (Some start) = refl
of_held (Some rr) None = refl
of_held None start = refl

-- ---- the whole

pub view_shows : ViewShowsMessage
view_shows m view message places viewed read =
    let b = bind_ok (message_at rdata_table m) _ (held (message, places)) read.exact in
    let gm : grammar.Message = b.0.0 in
    let same : standing b.0 ≡ held (message, places) = is_ok_same _ _ b.2 in
    let outline : (outline_of gm, b.0.1) ≡ outline_view view =
    is_ok_same _ _ (sym (ap outlined b.1) ∙ viewed.exact) in
    let stands = message_stands rdata_table m gm b.0.1 b.1 in
    let parts : parts_of gm ≡ message_parts message = ap (λ (y : Placed). y.0) same in
    let start = ap (λ (y : Placed). y.1.0) same in
    let header : header_view (view_header view) ≡ gm.header =
    ap (λ (y : Outline × ℕ). y.0.header) (sym outline) in
    record {
      header = header ∙ ap (λ (x : grammar.Message). x.header) (sym (whole_of_parts gm stands.counts))
          ∙ ap (λ (p : Parts). (whole p).header) parts;
      end = ap (λ (y : Outline × ℕ). y.1) (sym outline) ∙ ap (λ (y : Placed). y.1.1) same;
      signature = ap (λ (y : Outline × ℕ). y.0.signature) (sym outline) ∙ by_parts (last_of gm.additionals)
          ∙ (λ i. with_start (ap (λ (p : Parts). p.signature) parts i) (start i))
          ∙ of_held message.signature places.signature;
    }

-- ---- faults

its_fault : (fault : DecodeError) (read : Result (grammar.Message × ℕ) DecodeError)
    → (read >>= λ x. Ok (standing x)) ≡ Err fault → read ≡ Err fault
its_fault fault (Ok x) e = absurd cc
its_fault fault (Err d) e = cc

viewed_fault : (m : List ℕ) (viewed : Result MessageView DecodeError) (fault : DecodeError) → ViewsMessage m viewed
    → message_at rdata_table m ≡ Err fault → viewed ≡ Err fault
viewed_fault m (Ok view) fault h fails = absurd (cc (sym h.exact ∙ ap outlined fails))
viewed_fault m (Err d) fault h fails =
    let both : (let e : Result (Outline × ℕ) DecodeError = Err d in e) ≡ Err fault = sym h.exact ∙ ap outlined fails in
    cc

pub one_fault : OneFault
one_fault m viewed fault h read = go read.exact
  where
    go : (fault ≡ OutOfMemory) ⊎ ((message_at rdata_table m >>= λ x. Ok (standing x)) ≡ Err fault)
        → (fault ≡ OutOfMemory) ⊎ (viewed ≡ Err fault)
    go (inl memory) = inl memory
    go (inr fails) = inr (viewed_fault m viewed fault h (its_fault fault (message_at rdata_table m) fails))
