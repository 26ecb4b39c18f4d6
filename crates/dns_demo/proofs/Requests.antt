-- The request of the demo is written, and can be signed.
use Rattle.std.proofs.Common.{rules, ◌≡◌, ℕ, true, ◌&&◌, ◌==◌, List, [], ◌∷◌, length, map}
use Rattle.std.proofs.Common.{IsSome, Result, Ok, Err, refl, sym, ap, subst, ◌∙◌, arith, eq-eqb}
use Rattle.std.specs.Prelude.{is_none, option_and_then}
use Rattle.std.specs.Result.{result_unwrap_or}
use Rattle.dns_wire.specs.declared.error.DecodeError.{DecodeError}
use Rattle.dns_wire.specs.declared.error.EmitError.{EmitError}
use Rattle.dns_names.specs.Names.{IsName}
use Rattle.dns_grammar.specs.Laws.{IsMessage, read_unplaced, unplaced, unplaced_record}
use Rattle.dns_grammar.specs.Messages.{Message, ResourceRecord, message_at, signature_from}
use Rattle.dns_grammar.specs.Messages.{last_of}
use Rattle.dns_grammar.proofs.MessageBack.{written_message}
use Rattle.dns_message.specs.Parts.{whole}
use Rattle.dns_rdata.specs.RDataTable.{rdata_table}
use Rattle.sec_tsig.specs.Requests.{is_request, reads_request, signed_request}
use Rattle.sec_tsig.proofs.ByMessage.{HmacHasLength}
use Rattle.sec_tsig.proofs.Signable.{sized_out}
use Rattle.dns_demo.specs.Demo.{demo_message, demo_parts, demo_query, demo_request, demo_signer, demo_time, demo_written, zone}
use Rattle.dns_demo.specs.Laws.{RequestIsSigned, RequestIsWritten}

-- the octets of the request: a header, and the question for the address of `example.`
abbrev octets : List ℕ
octets =
    18 ∷ 52 ∷ 1 ∷ 0 ∷ 0 ∷ 1 ∷ 0 ∷ 0 ∷ 0 ∷ 0 ∷ 0 ∷ 0 ∷ 7 ∷ 101 ∷ 120 ∷ 97 ∷ 109 ∷ 112 ∷ 108 ∷ 101 ∷ 0 ∷ 0 ∷ 1 ∷ 0 ∷ 1 ∷ []

abbrev request : Message
request = whole (demo_parts 0x0100 (demo_query ∷ []) [])

written : demo_written 0x0100 (demo_query ∷ []) [] ≡ Ok octets
unfolding zone
written = refl

octets_are : demo_request ≡ octets
unfolding demo_request demo_message
octets_are = ap (λ (r : Result (List ℕ) EmitError). result_unwrap_or r []) written

pub request_is_written : RequestIsWritten
request_is_written = written ∙ ap (λ (x : List ℕ). let ok : Result (List ℕ) EmitError = Ok x in ok) (sym octets_are)

zone_is_name : IsName zone
unfolding zone
zone_is_name = record {
  each = (record { nonempty = omega arith; at_most_63 = omega arith; octets = search rules }, tt);
  at_most_255 = omega arith;
}

is_message : IsMessage rdata_table request
is_message = record {
  id = omega arith;
  flags = omega arith;
  counts = record { questions = refl; answers = refl; authorities = refl; additionals = refl };
  each_query = (record { name = zone_is_name; query_type = omega arith; query_class = omega arith }, tt);
  each_record = tt;
  tsig_is_last = record { answers = tt; authorities = tt; additionals = tt };
}

-- ---- what is read of it

none_mapped : (rrs : List ResourceRecord) → map unplaced_record rrs ≡ [] → rrs ≡ []
none_mapped [] is = refl
none_mapped (rr ∷ rrs) is = absurd cc

abbrev additionals_of : Result (Message × ℕ) DecodeError → List ResourceRecord
additionals_of (Ok x) = x.0.additionals
additionals_of (Err e) = []

abbrev end_of : Result (Message × ℕ) DecodeError → ℕ
end_of (Ok x) = x.1
end_of (Err e) = 0

-- octets that read as a message without additionals, which ends with them, are a request
reads : (read : Result (Message × ℕ) DecodeError) (m : List ℕ)
    → read_unplaced read ≡ Ok (unplaced request, length m) → reads_request m read ≡ true
reads (Err e) m is = absurd cc
reads (Ok x) m is =
    let none : x.0.additionals ≡ [] = none_mapped x.0.additionals (ap additionals_of is) in
    let end : (x.1 == length m) ≡ true = eq-eqb _ _ (ap end_of is) in
    (λ i. end i && is_none (option_and_then signature_from (last_of (none i))))

is_request_is : is_request octets ≡ true
is_request_is = reads (message_at rdata_table octets) octets
    (written_message rdata_table request octets is_message written (omega arith))

-- ---- how it is signed

pub request_is_signed : HmacHasLength → RequestIsSigned
unfolding demo_signer
request_is_signed has =
    subst (λ (m : List ℕ). IsSome (signed_request demo_signer demo_time m)) (sym octets_are)
    (sym (sized_out has demo_signer demo_time octets (omega arith) (omega arith) is_request_is (λ is. absurd cc)))
