-- A response, by the message that stands in its octets.
use Rattle.std.proofs.Common.{◌≡◌, ◌≢◌, ◌⊎◌, inl, inr, ℕ, Bool, true, false, cond, List, Result, Ok, Err, refl, sym, ap}
use Rattle.std.proofs.Common.{subst, ◌∙◌}
use Rattle.dns_wire.specs.declared.error.DecodeError.{DecodeError}
use Rattle.dns_wire.specs.declared.error.DecodeError.TheVariants as faults
use Rattle.dns_wire.specs.Reading.{◌>>=◌}
use Rattle.dns_wire.proofs.FieldLaws.{bind_ok, is_ok_same}
use Rattle.dns_grammar.specs.Messages as grammar
use Rattle.dns_grammar.specs.Messages.{MessageAt, message_at}
use Rattle.dns_grammar.proofs.MessageLaws.{message_stands, message_read}
use Rattle.dns_rdata.specs.RDataTable.{rdata_table}
use Rattle.dns_message.specs.declared.message.Message.{Message}
use Rattle.dns_message.specs.declared.response.DnsResponse.{DnsResponse}
use Rattle.dns_message.specs.declared.response.ResponseError.{ResponseError}
use Rattle.dns_message.specs.declared.response.ResponseError.TheVariants.{Decode, NotAResponse, OutOfMemory}
use Rattle.dns_message.specs.OwnedMessages.{standing_parts, IsReadMessage, ReadsMessage}
use Rattle.dns_message.specs.Parts.{Parts, message_parts, parts_of, has_qr}
use Rattle.dns_message.specs.Responses.{response_message, response_octets, response_parts, response_of, ReadsResponse}

abbrev Reads : List ℕ → Result Message DecodeError → Type 0
Reads m result = ReadsMessage message_parts standing_parts m result

-- the message that stands in the octets
record Stands (m : List ℕ) (parts : Parts) : Type 0 where
  pub message : grammar.Message
  pub end : ℕ
  pub read : message_at rdata_table m ≡ Ok (message, end)
  pub same : parts_of message ≡ parts

stands : (m : List ℕ) (message : Message) → Reads m (Ok message) → Stands m (message_parts message)
stands m message h =
    let b = bind_ok (message_at rdata_table m) _ (message_parts message) h.exact in
    record { message = b.0.0; end = b.0.1; read = b.1; same = cc }

chosen : (b : Bool) (x : grammar.Message × ℕ) → has_qr x.0.header.flags ≡ b
    → response_of (Ok x) ≡ cond b (Ok (parts_of x.0)) (Err NotAResponse)
chosen b x is = ap (λ t. cond t (Ok (parts_of x.0)) (Err NotAResponse)) is

-- the flags are those of the octets
same_flags : (m : List ℕ) (message : Message) (s : Stands m (message_parts message))
    → has_qr s.message.header.flags ≡ has_qr message.flags
same_flags m message s = ap (λ (parts : Parts). has_qr parts.flags) s.same

-- one message stands in the octets
one_message : (m : List ℕ) (parts : Parts) (s : Stands m parts) (other : grammar.Message) (e : ℕ)
    → MessageAt rdata_table m other e → s.message ≡ other
one_message m parts s other e at =
    ap (λ (x : grammar.Message × ℕ). x.0)
    (is_ok_same (s.message, s.end) (other, e) (sym s.read ∙ message_read rdata_table m other e at))

pub is_response : (m : List ℕ) (message : Message) (response : DnsResponse)
    → Reads m (Ok message) → IsReadMessage message → has_qr message.flags ≡ true
    → response_message response ≡ message → response_octets response ≡ m
    → ReadsResponse m (Ok response)
is_response m message response read as_read qr same octets =
    let s = stands m message read in
    let flags : has_qr s.message.header.flags ≡ true = same_flags m message s ∙ qr in
    let parts : response_parts response ≡ parts_of s.message = ap message_parts same ∙ sym s.same in
    record {
      exact = ap response_of s.read ∙ chosen true (s.message, s.end) flags
          ∙ ap (λ (p : Parts). let ok : Result Parts ResponseError = Ok p in ok) (sym parts);
      found = (s.message, s.end, message_stands rdata_table m s.message s.end s.read, flags, parts);
      only = λ other e at _.
          inr (parts ∙ ap parts_of (one_message m (message_parts message) s other e at));
      octets = octets;
      as_read = subst (λ (x : Message). IsReadMessage x) (sym same) as_read;
      no_memory = λ h. absurd cc;
    }

pub no_response : (m : List ℕ) (message : Message) → Reads m (Ok message) → has_qr message.flags ≡ false
    → ReadsResponse m (Err NotAResponse)
no_response m message read qr =
    let s = stands m message read in
    let flags : has_qr s.message.header.flags ≡ false = same_flags m message s ∙ qr in
    record {
      exact = inr (ap response_of s.read ∙ chosen false (s.message, s.end) flags);
      found = tt;
      only = λ other e at is.
          let same : has_qr other.header.flags ≡ has_qr s.message.header.flags =
          ap (λ (x : grammar.Message). has_qr x.header.flags)
          (sym (one_message m (message_parts message) s other e at)) in
          absurd (cc (sym is ∙ same ∙ flags));
      octets = tt;
      as_read = tt;
      no_memory = λ h. absurd cc;
    }

pub no_memory : (m : List ℕ) → ReadsResponse m (Err OutOfMemory)
no_memory m = record {
  exact = inl refl;
  found = tt;
  only = λ other e at is. inl refl;
  octets = tt;
  as_read = tt;
  no_memory = λ h. absurd cc;
}

its_fault : (fault : DecodeError) → (let e : Result DnsResponse ResponseError = Err (Decode fault) in e)
    ≡ Err (Decode faults.OutOfMemory) → fault ≡ faults.OutOfMemory
its_fault fault e = cc

pub no_message : (m : List ℕ) (fault : DecodeError) → Reads m (Err fault) → fault ≢ faults.OutOfMemory
    → ReadsResponse m (Err (Decode fault))
no_message m fault read other = record {
  exact = inr (why read.exact);
  found = tt;
  only = λ message e at is. absurd (nothing message e at (why_not read.exact));
  octets = tt;
  as_read = tt;
  no_memory = λ h. other (its_fault fault h);
}
  where
    why_not : (fault ≡ faults.OutOfMemory) ⊎ ((message_at rdata_table m >>= λ x. Ok (standing_parts x)) ≡ Err fault)
        → message_at rdata_table m ≡ Err fault
    why_not (inl memory) = absurd (other memory)
    why_not (inr is) = go (message_at rdata_table m) is
      where
        go : (r : Result (grammar.Message × ℕ) DecodeError) → (r >>= λ x. Ok (standing_parts x)) ≡ Err fault
            → r ≡ Err fault
        go (Ok x) e = absurd cc
        go (Err d) e = cc

    why : (fault ≡ faults.OutOfMemory) ⊎ ((message_at rdata_table m >>= λ x. Ok (standing_parts x)) ≡ Err fault)
        → response_of (message_at rdata_table m) ≡ Err (Decode fault)
    why h = ap response_of (why_not h)

    nothing : (message : grammar.Message) (e : ℕ) → MessageAt rdata_table m message e
        → message_at rdata_table m ≡ Err fault → ⊥
    nothing message e at fails = cc (sym (message_read rdata_table m message e at) ∙ fails)

pub ruleset reads_response = (is_response, no_response, no_memory, no_message)
