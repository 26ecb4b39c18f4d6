-- Records in memory as they were read, by the values of their fields.
use Rattle.std.proofs.Common.{◌≡◌, ℕ, Bool, true, false, eqb, List, Option, Some, None, option_map, refl, sym, ap, ◌∙◌}
use Rattle.std.proofs.Common.{if◌then◌else◌}
use Rattle.std.proofs.lemmas.Bool.{eqb-true}
use Rattle.dns_wire.specs.Lookup.{lookup}
use Rattle.dns_types.specs.TypeNumbers as types
use Rattle.dns_grammar.specs.Fields.{Value}
use Rattle.dns_grammar.specs.RecordData.{canon}
use Rattle.sec_sigdata.specs.Signatures.{SigData, SigIsByNumber, rrsig_data, sig_values}
use Rattle.dns_rdata.specs.declared.dnssec_rdata.DNSSECRData.{DNSSECRData}
use Rattle.dns_rdata.specs.declared.dnssec_rdata.DNSSECRData.TheVariants as dnssec
use Rattle.dns_rdata.specs.declared.rdata.RData.{RData}
use Rattle.dns_rdata.specs.declared.rdata.RData.TheVariants as rdata
use Rattle.dns_rdata.specs.RData.{DnssecIsByNumber, RDataIsByNumber, dnssec_type, dnssec_values, rdata_type, rdata_values}
use Rattle.dns_rdata.specs.RDataTable.{rdata_table}
use Rattle.dns_rdata.proofs.TableLaws.{canon_of_type}
use Rattle.dns_message.specs.declared.record.Record.{Record}
use Rattle.dns_message.specs.Parts.{record_view}
use Rattle.sec_sign.specs.MessageSignatures.{rrsig_from_values}
use Rattle.sec_sign.specs.Pairs.{rrsig_of, signature_record}
use Rattle.sec_sign.specs.Sets.{canonical}
use Rattle.sec_check.specs.Marks.{signature_of_record}

-- ---- signatures

-- an RRSIG whose algorithm is that of its number, by the values of its fields
from_fields : (sig : SigData) → SigIsByNumber sig → Some sig ≡ rrsig_from_values (Some (sig_values sig))
from_fields sig by_number = λ i.
    Some record {
      input =
          record {
            type_covered = sig.input.type_covered;
            algorithm = by_number i;
            num_labels = sig.input.num_labels;
            original_ttl = sig.input.original_ttl;
            sig_expiration = sig.input.sig_expiration;
            sig_inception = sig.input.sig_inception;
            key_tag = sig.input.key_tag;
            signer_name = sig.input.signer_name;
          };
      sig = sig.sig;
    }

-- the RRSIG that data are, by their type and the values of their fields
abbrev typed : ℕ → Option (List Value) → Option SigData
typed rtype values = if eqb rtype types.RRSIG then rrsig_from_values values else None

dnssec_rrsig : (x : DNSSECRData) → DnssecIsByNumber x
    → option_map rrsig_data (rrsig_of (rdata.DNSSEC x)) ≡ typed (dnssec_type x) (Some (dnssec_values x))
dnssec_rrsig (dnssec.RRSIG rrsig) h = from_fields (rrsig_data rrsig) h
dnssec_rrsig (dnssec.Unknown code null) h = absurd h
dnssec_rrsig _ h = refl

not_in_table : (rtype : ℕ) (values : Option (List Value)) → lookup rdata_table rtype ≡ None → None ≡ typed rtype values
not_in_table rtype values none = at (eqb rtype types.RRSIG) refl
  where
    known : eqb rtype types.RRSIG ≡ true → lookup rdata_table types.RRSIG ≡ None
    known is = sym (ap (lookup rdata_table) (eqb-true rtype types.RRSIG is)) ∙ none

    at : (b : Bool) → eqb rtype types.RRSIG ≡ b → None ≡ typed rtype values
    at true is = let no = known is in absurd cc
    at false is = rw is refl

empty_data : (rtype : ℕ) → None ≡ typed rtype None
empty_data rtype = at (eqb rtype types.RRSIG) refl
  where
    at : (b : Bool) → eqb rtype types.RRSIG ≡ b → None ≡ typed rtype None
    at true is = rw is refl
    at false is = rw is refl

rrsig_of_type : (x : RData) → RDataIsByNumber x
    → option_map rrsig_data (rrsig_of x) ≡ typed (rdata_type x) (rdata_values x)
rrsig_of_type (rdata.DNSSEC x) h = dnssec_rrsig x h
rrsig_of_type (rdata.Unknown rtype null) h = not_in_table rtype (rdata_values (rdata.Unknown rtype null)) h
rrsig_of_type (rdata.Update0 rtype) h = empty_data rtype
rrsig_of_type _ h = refl

pub signature_by_fields : (rr : Record RData) → RDataIsByNumber rr.rdata
    → signature_record rr ≡ signature_of_record (record_view rr)
signature_by_fields rr h = λ i.
    record { owner = rr.name; dns_class = rr.dns_class; rrsig = rrsig_of_type rr.rdata h i }

-- ---- canonical form

pub canonical_by_fields : (rr : Record RData) → RDataIsByNumber rr.rdata
    → canonical rr.rdata ≡ canon rdata_table (record_view rr).rtype (record_view rr).rdata
unfolding canonical
canonical_by_fields rr h = canon_of_type rr.rdata h
