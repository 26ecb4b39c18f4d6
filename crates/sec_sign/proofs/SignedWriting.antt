-- What is signed is written whatever it is.
use Rattle.std.proofs.Common.{◌≡◌, ℕ, ◌<◌, ◌^◌, true, false, ltb, List, length, Result, Ok, Err, refl, ap, subst, arith}
use Rattle.std.proofs.Common.{append_assoc, append-nil}
use Rattle.std.proofs.lemmas.Bool.{le-ltb}
use Rattle.dns_wire.specs.declared.encoder.NameEncoding.TheVariants.{Uncompressed}
use Rattle.dns_wire.specs.declared.error.EmitError.{EmitError}
use Rattle.dns_wire.specs.Sinks.{Puts, Takes}
use Rattle.dns_grammar.specs.Fields.{fields_octets}
use Rattle.dns_grammar.specs.Messages.{ResourceRecord}
use Rattle.dns_message.specs.MessageWriting.{with_rdata}
use Rattle.sec_sigdata.specs.declared.sig_input.SigInput.{SigInput}
use Rattle.sec_sigdata.specs.Signatures.{input_row, input_values}
use Rattle.sec_sign.specs.Signed.{header_octets, record_octets}

-- where there are octets, they are put
pub put_surely : {Sink Purpose : Type 0} (has_taken : Sink → Purpose → List ℕ → Type 0) (result : Result (Unit {0}) EmitError)
    (old new : Sink) (written : Result (List ℕ) EmitError) (octets : List ℕ)
    → Puts has_taken result old new written → written ≡ Ok octets → Takes has_taken old new octets
put_surely has_taken (Ok u) old new (Ok x) octets puts is =
    let same : x ≡ octets = cc in
    subst (λ (y : List ℕ). Takes has_taken old new y) same puts
put_surely has_taken (Ok u) old new (Err e) octets puts is = absurd puts
put_surely has_taken (Err e) old new (Ok x) octets puts is = let no = puts.1 in absurd cc
put_surely has_taken (Err e) old new (Err f) octets puts is = absurd cc

-- the data of an RRSIG up to the signature have their octets
pub header_written : (input : SigInput) → fields_octets true input_row (input_values input) ≡ Ok (header_octets input)
unfolding header_octets
header_written input = ap (λ (x : List ℕ). let ok : Result (List ℕ) EmitError = Ok x in ok) (simp (append_assoc, append-nil) refl)

-- data that fit a record make one
pub record_written : (head : ResourceRecord) (rdata : List ℕ) → length rdata < 2 ^ 16
    → with_rdata Uncompressed head (Ok rdata) ≡ Ok (record_octets head rdata)
unfolding record_octets
record_written head rdata short =
    let fits : ltb 65535 (length rdata) ≡ false = le-ltb _ _ (omega arith) in
    rw fits refl
