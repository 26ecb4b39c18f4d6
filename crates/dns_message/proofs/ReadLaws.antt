-- A call that answers what the reading function gives reads the message that stands there.
use Rattle.std.proofs.Common.{◌≡◌, ◌⊎◌, inl, inr, ℕ, List, Result, Ok, Err, refl, sym, ap, ◌∙◌}
use Rattle.std.specs.Prelude.{IfOk, IsOkAnd}
use Rattle.dns_wire.specs.declared.error.DecodeError.{DecodeError}
use Rattle.dns_wire.specs.declared.error.DecodeError.TheVariants.{OutOfMemory}
use Rattle.dns_wire.specs.Reading.{◌>>=◌, GivesUnless}
use Rattle.dns_wire.proofs.FieldLaws.{bind_ok}
use Rattle.dns_grammar.specs.Messages.{Message, MessageAt, message_at}
use Rattle.dns_grammar.proofs.MessageLaws.{message_stands, message_read}
use Rattle.dns_rdata.specs.RDataTable.{rdata_table}
use Rattle.dns_message.specs.declared.message.Message as declared
use Rattle.dns_message.specs.declared.message.Places.{Places}
use Rattle.dns_message.specs.OwnedMessages.{held, standing, standing_parts, ReadsMessage}
use Rattle.dns_message.specs.Parts.{message_parts}

abbrev Held : Type 0
Held = declared.Message

abbrev given : {Y : Type 0} → (Message × ℕ → Y) → List ℕ → Result Y DecodeError
given of m = message_at rdata_table m >>= λ x. Ok (of x)

same_ok : {Y : Type 0} (x y : Y) → (let ok : Result Y DecodeError = Ok x in ok) ≡ Ok y → x ≡ y
same_ok x y e = cc

found_in : {X Y : Type 0} (view : X → Y) (of : Message × ℕ → Y) (m : List ℕ) (result : Result X DecodeError)
    → GivesUnless OutOfMemory view result (given of m)
    → IfOk result (λ x. (message : Message) × (e : ℕ) × MessageAt rdata_table m message e
    × (view x ≡ of (message, e)))
found_in view of m (Ok x) exact =
    let b = bind_ok (message_at rdata_table m) _ (view x) exact in
    (b.0.0, b.0.1, message_stands rdata_table m b.0.0 b.0.1 b.1, sym (same_ok _ _ b.2))
found_in view of m (Err e) exact = tt

only_in : {X Y : Type 0} (view : X → Y) (of : Message × ℕ → Y) (m : List ℕ) (result : Result X DecodeError)
    (message : Message) (e : ℕ)
    → GivesUnless OutOfMemory view result (given of m) → MessageAt rdata_table m message e
    → (result ≡ Err OutOfMemory) ⊎ IsOkAnd result (λ x. view x ≡ of (message, e))
only_in view of m (Ok x) message e exact stands =
    inr (same_ok _ _ (sym exact ∙ ap (λ r. r >>= λ x. Ok (of x)) (message_read rdata_table m message e stands)))
only_in view of m (Err fault) message e (inl memory) stands =
    inl (ap (λ f. Err f) memory)
only_in view of m (Err fault) message e (inr exact) stands =
    absurd (cc (sym exact ∙ ap (λ r. r >>= λ x. Ok (of x)) (message_read rdata_table m message e stands)))

pub reads_message : {X Y : Type 0} (view : X → Y) (of : Message × ℕ → Y) (m : List ℕ) (result : Result X DecodeError)
    → GivesUnless OutOfMemory view result (given of m) → ReadsMessage view of m result
reads_message view of m result exact = record {
  exact = exact;
  found = found_in view of m result exact;
  only = λ message e stands. only_in view of m result message e exact stands;
}

-- ---- the message without its places

abbrev parts_alone : {X Y : Type 0} → X × Y → Result X DecodeError
parts_alone x = Ok x.0

given_parts : (read : Result (Message × ℕ) DecodeError)
    → ((read >>= λ x. Ok (standing x)) >>= parts_alone) ≡ (read >>= λ x. Ok (standing_parts x))
given_parts (Ok x) = refl
given_parts (Err e) = refl

pub read_parts : (m : List ℕ) (message : Held) (places : Places)
    → ReadsMessage held standing m (Ok (message, places)) → ReadsMessage message_parts standing_parts m (Ok message)
read_parts m message places h =
    reads_message message_parts standing_parts m (Ok message)
    (sym (given_parts (message_at rdata_table m)) ∙ ap (λ r. r >>= parts_alone) h.exact)

pub unread_parts : (m : List ℕ) (e : DecodeError)
    → ReadsMessage {X = Held × Places} held standing m (Err e)
    → ReadsMessage {X = Held} message_parts standing_parts m (Err e)
unread_parts m e h = reads_message message_parts standing_parts m (Err e) (why h.exact)
  where
    why : (e ≡ OutOfMemory) ⊎ (given standing m ≡ Err e) → (e ≡ OutOfMemory) ⊎ (given standing_parts m ≡ Err e)
    why (inl memory) = inl memory
    why (inr is) = inr (sym (given_parts (message_at rdata_table m)) ∙ ap (λ r. r >>= parts_alone) is)
