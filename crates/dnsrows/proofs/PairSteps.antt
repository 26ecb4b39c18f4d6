-- A signature and a key, by the values of the records.
use Rattle.std.proofs.Common.{◌≡◌, ℕ, List, map}
use Rattle.std.proofs.Common.{ap}
use Rattle.std.specs.List.{AllByRecursion}
use Rattle.dns_rdata.specs.declared.rdata.RData.{RData}
use Rattle.dns_message.specs.declared.record.Record.{Record}
use Rattle.dns_message.specs.OwnedMessages.{IsReadRecord}
use Rattle.dns_message.specs.Parts.{record_view}
use Rattle.sec_sigdata.specs.declared.sig_input.SigInput.{SigInput}
use Rattle.sec_sign.specs.Sets.{SetName, set_octets}
use Rattle.sec_sign.specs.Pairs.{ZoneKey, pair_verdict, record_verdict}
use Rattle.sec_sign.specs.Signed.{set_covered, signed, signed_of}
use Rattle.sec_check.proofs.ReadRecords.{signature_by_fields}
use Rattle.dnsrows.specs.Pairs.{verdict_among}
use Rattle.dnsrows.specs.Scheme.{keyed_hash}
use Rattle.dnsrows.proofs.SetValues.{set_by_values}

pub pair_by_values : (moment : ℕ) (set : SetName) (key : ZoneKey) (rr : Record RData) (answers : List (Record RData))
    → IsReadRecord rr → AllByRecursion IsReadRecord answers
    → pair_verdict keyed_hash moment set rr key answers
    ≡ verdict_among moment set key (map record_view answers) (record_view rr)
pair_by_values moment set key rr answers read all = λ i.
    record_verdict keyed_hash moment set key (set_by_values set answers all i)
    (signature_by_fields rr read.by_number.by_number i)

pub signed_by_values : (input : SigInput) (n : List (List ℕ)) (k : ℕ) (records : List (Record RData))
    → AllByRecursion IsReadRecord records
    → signed input n k records
    ≡ signed_of input n k
    (set_octets (set_covered n k input) (map record_view records))
signed_by_values input n k records all =
    ap (signed_of input n k) (set_by_values (set_covered n k input) records all)
