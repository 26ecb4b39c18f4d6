use Rattle.std.proofs.Common.{rules, ◌≡◌, ◌∙◌, ap, map, List}
use Rattle.std.specs.List.{filter}
use Rattle.dns_rdata.specs.declared.rdata.RData.{RData}
use Rattle.dns_message.specs.declared.record.Record.{Record}
use Rattle.dns_message.specs.Parts.{record_view}
use Rattle.sec_sign.specs.Pairs.{signature_record}
use Rattle.sec_sign.specs.Sets.{set_data}
use Rattle.sec_check.specs.Marks.{Trust, mark_by, strongest_pair}
use Rattle.sec_check.specs.SectionRecords.{is_record_of, is_signature_of, name_of}
use Rattle.sec_check.proofs.MarkLaws.{held_mark, marked}
use Rattle.sec_check.proofs.reporting.proof_of.Goals as goal

pub returns : goal.returns
returns g c records holds read forms =
    let trust : Trust =
    record { accepts = g.S.SignatureScheme.accepts c.args.scheme.now; moment = c.args.moment; entries = c.args.keys.now } in
    let set = name_of c.args.set.now in
    let of_set : c.get-records.result.now ≡ filter (is_record_of set) records =
    c.get-records.ensures ∙ holds.records_of set in
    let covering : c.get-signatures.result.now ≡ filter (is_signature_of set) records =
    c.get-signatures.ensures ∙ holds.signatures_of set in
    let found : c.in_ok-proof.proof
    ≡ mark_by (strongest_pair trust set
    (set_data set c.get-records.result.now)
    (map signature_record c.get-signatures.result.now)) = search rules in
    marked trust c.args.section (map record_view records) set c.from.result c.from-2.result c.in_ok-proof.proof
    c.from.ensures c.from-2.ensures
    (found
    ∙ ap (λ (rrs : List (Record RData)). mark_by (strongest_pair trust set
    (set_data set rrs) (map signature_record c.get-signatures.result.now))) of_set
    ∙ ap (λ (rrs : List (Record RData)). mark_by (strongest_pair trust set
    (set_data set (filter (is_record_of set) records)) (map signature_record rrs)))
    covering
    ∙ held_mark trust set records read forms)
