-- What is true of the table of record data.
use Rattle.std.proofs.Common.{◌≡◌, ℕ, ◌+◌, ◌<◌, List, true, false, Option, IsTrue, refl, sym, ap, arith}
use Rattle.std.specs.Prelude.{map, nat_lt, slice_index, unwrap_or}
use Rattle.std.proofs.lemmas.Bool.{ltb-true, agree_below_at}
use Rattle.std.specs.List.Sorted.{IsStrictlyIncreasing}
use Rattle.dns_grammar.specs.Fields.{Field, row_of, unknown_row}
use Rattle.dns_grammar.specs.Laws.{rest_is_last}
use Rattle.dns_grammar.specs.RecordData.{rdata_octets, plain, fitting, canon}
use Rattle.dns_grammar.specs.Tables.{IsTable}
use Rattle.dns_grammar.proofs.ReadAgain.{read_data_again}
use Rattle.dns_rdata.specs.declared.dnssec_rdata.DNSSECRData.{DNSSECRData}
use Rattle.dns_rdata.specs.declared.dnssec_rdata.DNSSECRData.TheVariants as dnssec
use Rattle.dns_rdata.specs.declared.rdata.RData.{RData}
use Rattle.dns_rdata.specs.declared.rdata.RData.TheVariants as rdata
use Rattle.dns_rdata.specs.OneReading.{IsReadAgain}
use Rattle.dns_rdata.specs.RData.{rdata_row, rdata_type, rdata_values, RDataIsByNumber}
use Rattle.dns_rdata.specs.RData.{dnssec_row, dnssec_type, DnssecIsByNumber}
use Rattle.dns_rdata.specs.RDataTable.{rdata_table}
use Rattle.dns_rdata.proofs.OneReading.{row_rest_is_last}

pub rest_last : (rtype : ℕ) → IsTrue (rest_is_last (row_of rdata_table rtype))
rest_last rtype = row_rest_is_last rdata_table rtype refl

-- the numbers of the types
abbrev numbers : List ℕ
numbers = map (λ row. row.0) rdata_table

pub types_ascend : IsStrictlyIncreasing (map (λ row. row.0) rdata_table)
types_ascend k small =
    let inside : k + 1 < 35 = small in
    ltb-true _ _ (agree_below_at (λ i. nat_lt (slice_index numbers i) (slice_index numbers (i + 1))) (λ _. true) 34 k
    refl (omega (arith, inside)))

pub tsig_known : IsTable rdata_table
tsig_known = record { tsig = refl }

pub read_again : IsReadAgain rdata_table
read_again m p len rtype data_of q octets read =
    read_data_again rdata_table m p len rtype data_of q (rest_last rtype) octets read

dnssec_row_of_type : (x : DNSSECRData) → DnssecIsByNumber x → dnssec_row x ≡ row_of rdata_table (dnssec_type x)
dnssec_row_of_type (dnssec.Unknown code null) h = absurd h
dnssec_row_of_type _ h = refl

pub row_of_type : (x : RData) → RDataIsByNumber x → rdata_row x ≡ row_of rdata_table (rdata_type x)
row_of_type (rdata.DNSSEC x) h = dnssec_row_of_type x h
row_of_type (rdata.Unknown rtype null) h = ap (λ (o : Option (List Field)). unwrap_or o unknown_row) (sym h)
row_of_type _ h = refl

pub plain_of_type : (x : RData) → RDataIsByNumber x
    → rdata_octets false (rdata_row x) (rdata_values x) ≡ plain rdata_table (rdata_type x) (rdata_values x)
plain_of_type x h = ap (λ row. rdata_octets false row (rdata_values x)) (row_of_type x h)

pub canon_of_type : (x : RData) → RDataIsByNumber x
    → fitting (rdata_octets true (rdata_row x) (rdata_values x)) ≡ canon rdata_table (rdata_type x) (rdata_values x)
canon_of_type x h = ap (λ row. fitting (rdata_octets true row (rdata_values x))) (row_of_type x h)
