-- The signatures that records are.
use Rattle.std.proofs.Common.{◌≡◌, Option, Some, None, option_map, refl, ap, sym, ◌∙◌}
use Rattle.sec_sigdata.specs.declared.rrsig.RRSIG.{RRSIG}
use Rattle.sec_sigdata.specs.Signatures.{SigData, rrsig_data}
use Rattle.dns_rdata.specs.declared.dnssec_rdata.DNSSECRData.TheVariants as dnssec
use Rattle.dns_rdata.specs.declared.rdata.RData.{RData}
use Rattle.dns_rdata.specs.declared.rdata.RData.TheVariants as rdata
use Rattle.dns_message.specs.declared.record.Record.{Record}
use Rattle.dns_message.specs.OwnedMessages.{IsReadRecord}
use Rattle.dns_message.specs.Parts.{record_view}
use Rattle.sec_sign.specs.MessageSignatures.{rrsig_in}
use Rattle.sec_sign.specs.Pairs.{SignatureRecord, rrsig_of}
use Rattle.sec_check.proofs.ReadRecords.{signature_by_fields}

-- the RRSIG that data are, by the values of their fields
by_values : (rr : Record RData) → IsReadRecord rr
    → option_map rrsig_data (rrsig_of rr.rdata) ≡ rrsig_in (record_view rr)
by_values rr read = ap (λ (s : SignatureRecord). s.rrsig) (signature_by_fields rr read.by_number.by_number)

none_of : (x : RData) → ((value : RRSIG) → x ≡ rdata.DNSSEC (dnssec.RRSIG value) → ⊥) → rrsig_of x ≡ None
none_of (rdata.DNSSEC (dnssec.RRSIG value)) h = absurd (h value refl)
none_of _ h = refl

pub some_signature : (rr : Record RData) (value : RRSIG) → IsReadRecord rr
    → rr.rdata ≡ rdata.DNSSEC (dnssec.RRSIG value) → Some (rrsig_data value) ≡ rrsig_in (record_view rr)
some_signature rr value read is = ap (λ (x : RData). option_map rrsig_data (rrsig_of x)) (sym is) ∙ by_values rr read

pub no_signature : (rr : Record RData) → IsReadRecord rr
    → ((value : RRSIG) → rr.rdata ≡ rdata.DNSSEC (dnssec.RRSIG value) → ⊥)
    → (let none : Option SigData = None in none) ≡ rrsig_in (record_view rr)
no_signature rr read none =
    ap (λ (o : Option RRSIG). option_map rrsig_data o) (sym (none_of rr.rdata none)) ∙ by_values rr read

pub ruleset exits = (some_signature, no_signature)
