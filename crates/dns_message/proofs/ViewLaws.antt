-- A view of octets, by the message that stands in them.
use Rattle.std.proofs.Common.{◌≡◌, ℕ, ◌≤◌, List, length, Result, Ok, Err, refl, sym, ap, ◌∙◌}
use Rattle.std.specs.Prelude.{IfOk, IsOkAnd, OnOk}
use Rattle.std.specs.Option.{ForSome}
use Rattle.dns_wire.specs.declared.error.DecodeError.{DecodeError}
use Rattle.dns_wire.specs.Reading.{Gives}
use Rattle.dns_wire.proofs.FieldLaws.{is_ok_same}
use Rattle.dns_grammar.specs.Messages.{Message, MessageAt, Outline, outline_of, message_at}
use Rattle.dns_grammar.proofs.MessageLaws.{message_stands, message_read}
use Rattle.dns_rdata.specs.RDataTable.{rdata_table}
use Rattle.dns_message.specs.declared.view.MessageView.{MessageView}
use Rattle.dns_message.specs.Views.{view_end, view_header, view_tsig, outline_view, outlined, IsPlaced, ViewsMessage}

-- octets are a message of this outline, which ends there
pub record HasOutline (m : List ℕ) (o : Outline × ℕ) : Type 0 where
  pub x : Message × ℕ
  pub read : message_at rdata_table m ≡ Ok x
  pub same : (let seen : Outline × ℕ = (outline_of x.0, x.1) in seen) ≡ o

pub has_outline : (m : List ℕ) (o : Outline × ℕ) → outlined (message_at rdata_table m) ≡ Ok o → HasOutline m o
has_outline m o is = go (message_at rdata_table m) refl is
  where
    go : (read : Result (Message × ℕ) DecodeError) → message_at rdata_table m ≡ read → outlined read ≡ Ok o
        → HasOutline m o
    go (Ok x) h is = record { x = x; read = h; same = cc }
    go (Err e) h is = absurd cc

found_in : (m : List ℕ) (result : Result MessageView DecodeError)
    → Gives outline_view result (outlined (message_at rdata_table m))
    → IfOk result (λ view. (message : Message) × MessageAt rdata_table m message (view_end view)
    × ((outline_view view).0 ≡ outline_of message))
found_in m (Ok view) exact =
    let has = has_outline m (outline_view view) exact in
    let end : has.x.1 ≡ view_end view = ap (λ (y : Outline × ℕ). y.1) has.same in (
      has.x.0,
      message_stands rdata_table m has.x.0 (view_end view)
          (has.read ∙ ap (λ (e : ℕ). let ok : Result (Message × ℕ) DecodeError = Ok (has.x.0, e) in ok) end),
      sym (ap (λ (y : Outline × ℕ). y.0) has.same),
    )
found_in m (Err e) exact = tt

only_in : (m : List ℕ) (result : Result MessageView DecodeError) (message : Message) (e : ℕ)
    → Gives outline_view result (outlined (message_at rdata_table m)) → MessageAt rdata_table m message e
    → IsOkAnd result (λ view. outline_view view ≡ (outline_of message, e))
only_in m (Ok view) message e exact stands =
    is_ok_same _ _ (sym exact ∙ ap outlined (message_read rdata_table m message e stands))
only_in m (Err fault) message e exact stands =
    absurd (cc (sym exact ∙ ap outlined (message_read rdata_table m message e stands)))

pub views : (m : List ℕ) (result : Result MessageView DecodeError)
    → Gives outline_view result (outlined (message_at rdata_table m))
    → IfOk result (λ view. ForSome (view_tsig view) (IsPlaced m (view_header view)))
    → OnOk result (12 ≤ length m)
    → ViewsMessage m result
views m result exact placed header = record {
  exact = exact;
  found = found_in m result exact;
  only = λ message e stands. only_in m result message e exact stands;
  placed = placed;
  header = header;
}
