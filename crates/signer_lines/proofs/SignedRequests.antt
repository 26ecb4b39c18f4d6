-- The request of a line, as it is signed.
use Rattle.std.proofs.Common.{◌≡◌, ℕ, ◌≤◌, Bool, true, false, cond, List, length, Option, Some, None, is_some, option_map}
use Rattle.std.proofs.Common.{◌^◌, nat_lt, Result, Ok, Err, refl, sym, ap, ◌∙◌}
use Rattle.std.specs.Prelude.{IsSome}
use Rattle.std.specs.Result.{result_ok}
use Rattle.dns_wire.specs.declared.error.DecodeError.{DecodeError}
use Rattle.dns_grammar.specs.Messages.{Message, message_at}
use Rattle.dns_grammar.proofs.MessageLaws.{message_is_read}
use Rattle.dns_rdata.specs.RDataTable.{rdata_table}
use Rattle.dns_wire.specs.declared.error.EmitError.{EmitError}
use Rattle.sec_tsig.specs.declared.sign_error.TsigSignError.{TsigSignError}
use Rattle.sec_tsig.specs.declared.sign_error.TsigSignError.TheVariants.{TimeTooLarge}
use Rattle.sec_tsig.specs.Requests.{is_request, reads_request, signed_request}
use Rattle.sec_tsig.specs.Signers.{Signer, request_record}
use Rattle.sec_tsig.specs.Tsig.{TsigRecord, with_record}
use Rattle.sec_tsig.specs.Verdict.{TsigChain, first_chain, signed_octets}

abbrev signed_if : Signer → ℕ → List ℕ → Bool → Option (List ℕ × TsigChain)
signed_if signer time octets request =
    cond request (option_map (λ signed. (signed, first_chain signer time octets))
    (result_ok (with_record octets (request_record signer time octets)))) None

pub request_has_header : (signer : Signer) (time : ℕ) (octets : List ℕ) → IsSome (signed_request signer time octets)
    → 12 ≤ length octets
request_has_header signer time octets is = at (message_at rdata_table octets) refl
  where
    at : (read : Result (Message × ℕ) DecodeError) → message_at rdata_table octets ≡ read → 12 ≤ length octets
    at (Ok x) h = ((message_is_read rdata_table octets x.0 x.1).0 h).header.additionals.1.inside
    at (Err fault) h = absurd (none (ap (λ r. is_some (signed_if signer time octets (reads_request octets r))) (sym h) ∙ is))
      where
        none : false ≡ true → ⊥
        none e = absurd cc

-- a request with its record is the signed request
pub request_signed : (signer : Signer) (time : ℕ) (octets new : List ℕ) (record_of : TsigRecord) (chain : TsigChain)
    → IsSome (signed_request signer time octets) → signed_octets signer time octets ≡ Ok (record_of, chain)
    → with_record octets record_of ≡ Ok new → signed_request signer time octets ≡ Some (new, chain)
request_signed signer time octets new record_of chain is signs put = at (is_request octets) refl
  where
    at : (request : Bool) → is_request octets ≡ request → signed_request signer time octets ≡ Some (new, chain)
    at false h = absurd (none (ap (λ (b : Bool). is_some (signed_if signer time octets b)) (sym h) ∙ is))
      where
        none : false ≡ true → ⊥
        none e = absurd cc
    at true h = go (nat_lt time (2 ^ 48)) refl
      where
        go : (below : Bool) → nat_lt time (2 ^ 48) ≡ below → signed_request signer time octets ≡ Some (new, chain)
        go false b = absurd (none (sym (late b) ∙ signs))
          where
            late : nat_lt time (2 ^ 48) ≡ false → signed_octets signer time octets ≡ Err TimeTooLarge
            late e = rw e refl

            none : (let failed : Result (TsigRecord × TsigChain) TsigSignError = Err TimeTooLarge in failed)
                ≡ Ok (record_of, chain) → ⊥
            none e = absurd cc
        go true b = rw h (ap (λ (x : TsigRecord × TsigChain). option_map (λ signed. (signed, x.1))
            (result_ok (with_record octets x.0))) (same (sym (early b) ∙ signs))
            ∙ ap (λ (written : Result (List ℕ) EmitError). option_map (λ signed. (signed, chain)) (result_ok written)) put)
          where
            early : nat_lt time (2 ^ 48) ≡ true → signed_octets signer time octets
                ≡ Ok (request_record signer time octets, first_chain signer time octets)
            early e = rw e refl

            same : (let done : Result (TsigRecord × TsigChain) TsigSignError
                = Ok (request_record signer time octets, first_chain signer time octets) in done)
                ≡ Ok (record_of, chain)
                → ◌≡◌ {A = TsigRecord × TsigChain} (request_record signer time octets, first_chain signer time octets) (record_of, chain)
            same e = cc
