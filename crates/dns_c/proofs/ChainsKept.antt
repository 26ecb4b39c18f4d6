-- Chains in the caller's memory, and signed requests in the caller's room.
use Rattle.std.proofs.Common.{◌≡◌, ℕ, ◌≤◌, false, not, nat_eq, nat_lt, List, ◌++◌, length, take, drop, Result, Ok, Err}
use Rattle.std.proofs.Common.{refl, sym, ap, ◌∙◌, arith}
use Rattle.std.proofs.lemmas.Bool.{le-ltb}
use Rattle.dns_wire.specs.declared.error.DecodeError.{DecodeError}
use Rattle.dns_wire.specs.Reading.{◌>>=◌}
use Rattle.dns_grammar.specs.Messages.{Message, message_at}
use Rattle.dns_rdata.specs.RDataTable.{rdata_table}
use Rattle.sec_digest.specs.declared.mac.Mac.{Mac}
use Rattle.sec_tsig.specs.declared.request_error.RequestError.{RequestError}
use Rattle.sec_tsig.specs.declared.verify_error.VerifyError.{VerifyError}
use Rattle.sec_tsig.specs.declared.verify_error.VerifyError.TheVariants as causes
use Rattle.dns_wire.specs.Rooms.{filled}
use Rattle.sec_tsig.specs.Requests.{SignsTo, signed_or_cause}
use Rattle.sec_tsig.specs.Signers.{Signer}
use Rattle.sec_tsig.specs.Notices.{TsigNotice, notice_by}
use Rattle.sec_tsig.specs.Verdict.{TsigChain, first_chain, with_tsig, signature_verdict, verdict}
use Rattle.dns_c.specs.declared.transaction.PspAnswer.{PspAnswer}
use Rattle.dns_c.specs.declared.transaction.PspChain.{PspChain}
use Rattle.dns_c.specs.declared.status.Status.{Status}
use Rattle.dns_c.specs.Answered.{answered}
use Rattle.dns_c.specs.Transactions.{answer_for, answer_read, chain_for, chain_from, checked_by, or_request_status}
use Rattle.dns_c.specs.Transactions.{or_verify_status, signed_by, answered_signed}

-- what signing comes to, by the octets that it gives
abbrev signed_as : Signer → ℕ → List ℕ → Result (List ℕ) RequestError → Result (List ℕ × TsigChain) Status
signed_as signer time request given =
    or_request_status given >>= λ octets. Ok (octets, first_chain signer time request)

-- what is told of a request that is signed, where the room is long enough
pub signed_told : (signer : Signer) (time : ℕ) (request out new : List ℕ) (n : ℕ) (mac : Mac) (out_len : ℕ)
    (chain kept : PspChain) → SignsTo (Ok (n, mac)) out new (first_chain signer time request) (signed_or_cause signer time request)
    → n ≤ length out → kept ≡ chain_for (first_chain signer time request)
    → (0, new, n, kept) ≡ answered_signed (signed_by (Ok signer) time request) out out_len chain
signed_told signer time request out new n mac out_len chain kept is fits kept_is = at is.0 is.1 is.2 is.3
  where
    at : (octets : List ℕ) → signed_or_cause signer time request ≡ Ok octets → n ≡ length octets
        → new ≡ filled out octets
        → (0, new, n, kept) ≡ answered_signed (signed_by (Ok signer) time request) out out_len chain
    at octets given long put =
        let short : nat_lt (length out) (length octets) ≡ false = le-ltb _ _ (omega (arith, long, fits)) in
        let placed : new ≡ octets ++ drop (length octets) out = put ∙ rw short refl in
        (λ i. (0, placed i, long i, kept_is i))
        ∙ sym (ap (λ (r : Result (List ℕ) RequestError). answered_signed (signed_as signer time request r) out out_len chain)
        given ∙ rw short refl)

-- ---- answers

-- what octets come to that are no message
refused : (found : Result TsigChain VerifyError) (next : TsigChain) → found ≡ Ok next → found ≡ Err causes.Decode → ⊥
refused (Ok chain) next accepted decode = absurd cc
refused (Err cause) next accepted decode = absurd cc

-- what an accepted answer tells is that of its message
tells_read : (chain next : TsigChain) (m : List ℕ) (tells : TsigNotice) → verdict chain m ≡ Ok next
    → ((message : Message) (e : ℕ) → message_at rdata_table m ≡ Ok (message, e) → tells ≡ notice_by chain.first message)
    → answer_for tells ≡ answer_read chain.first (message_at rdata_table m)
tells_read chain next m tells accepted by = at (message_at rdata_table m) refl
  where
    at : (found : Result (Message × ℕ) DecodeError) → message_at rdata_table m ≡ found
        → answer_for tells ≡ answer_read chain.first (message_at rdata_table m)
    at (Ok x) is = ap answer_for (by x.0 x.1 is) ∙ ap (answer_read chain.first) (sym is)
    at (Err fault) is =
        absurd (refused (verdict chain m) next accepted (ap (with_tsig (signature_verdict chain m)) is))

-- what checking comes to, by the chain that the caller keeps, and by the verdict
abbrev checked_for : List ℕ → Result TsigChain Status → Result (PspChain × PspAnswer) Status
checked_for m found =
    found >>= λ chain. or_verify_status (verdict chain m) >>= λ next. Ok
    (chain_for next, answer_read chain.first (message_at rdata_table m))

abbrev checked_as : List ℕ → TsigChain → Result TsigChain VerifyError → Result (PspChain × PspAnswer) Status
checked_as m chain found =
    or_verify_status found >>= λ next. Ok (chain_for next, answer_read chain.first (message_at rdata_table m))

-- what is told of an answer that is accepted
pub checked_told : (signer : Signer) (kept moved : PspChain) (chain next : TsigChain) (m : List ℕ) (tells : TsigNotice)
    (answer found : PspAnswer) → kept.mac_len ≤ 64
    → chain ≡ record {
      signer = signer;
      request_time = kept.request_time;
      mac = take kept.mac_len kept.mac;
      time = kept.time;
      first = not (nat_eq kept.first 0);
    }
    → verdict chain m ≡ Ok next
    → ((message : Message) (e : ℕ) → message_at rdata_table m ≡ Ok (message, e) → tells ≡ notice_by chain.first message)
    → moved ≡ chain_for next → found ≡ answer_for tells
    → (0, (moved, found)) ≡ answered (checked_by (Ok signer) kept m) (kept, answer)
checked_told signer kept moved chain next m tells answer found len chain_is accepted by moved_is found_is =
    let short : nat_lt 64 kept.mac_len ≡ false = le-ltb _ _ len in
    let resumed : chain_from kept signer ≡ Ok chain =
    rw short (ap (λ (x : TsigChain). let ok : Result TsigChain Status = Ok x in ok) (sym chain_is)) in
    let read : found ≡ answer_read chain.first (message_at rdata_table m) =
    found_is ∙ tells_read chain next m tells accepted by in
    (λ i. (0, (moved_is i, read i)))
    ∙ sym (ap (λ (r : Result TsigChain VerifyError). answered (checked_as m chain r) (kept, answer)) accepted)
    ∙ sym (ap (λ (r : Result TsigChain Status). answered (checked_for m r) (kept, answer)) resumed)
