use Rattle.std.proofs.Common.{rules, ◌≡◌, refl, true, false, Some, None}
use Rattle.dns_rdata.specs.RData.{rdata_type}
use Rattle.sec_sign.specs.Sets.{same_set}
use Rattle.sec_sign.specs.Pairs.{signature_record}
use Rattle.sec_check.specs.Indexes.{values_at}
use Rattle.sec_check.specs.RecordSets.{forms_rrset, with_new}
use Rattle.sec_check.specs.SectionRecords.{covered_set, key_cmp, name_of}
use Rattle.sec_check.proofs.SectionSteps.{IsPut, with_other, with_record, with_signature}
use Rattle.sec_check.proofs.section_records.SectionRecords.add.Goals as goal

pub returns-in-Some : goal.returns-in-Some
returns-in-Some c so_far holds =
    let records_at = values_at key_cmp c.args.self.records.by_key in
    let signatures_at = values_at key_cmp c.args.self.signatures.by_key in
    let now_at = values_at key_cmp c.put.new.self.by_key in
    let covers : covered_set (signature_record c.args.rr) ≡ Some (name_of c.in-Some.covered) = search rules in
    let put : IsPut c.in-Some.covered c.args.rr signatures_at now_at = search rules in
    with_signature c.args.self.sets records_at signatures_at so_far c.args.rr holds now_at
    (name_of c.in-Some.covered) c.in-Some.covered refl covers put

pub returns-then-not-forms_rrset : goal.returns-then-not-forms_rrset
returns-then-not-forms_rrset c so_far holds =
    let records_at = values_at key_cmp c.args.self.records.by_key in
    let signatures_at = values_at key_cmp c.args.self.signatures.by_key in
    let covers : covered_set (signature_record c.args.rr) ≡ None = search rules in
    let forms : forms_rrset (rdata_type c.args.rr.rdata) ≡ false = search rules in
    with_other c.args.self.sets records_at signatures_at so_far c.args.rr holds covers forms

pub returns : goal.returns
returns c so_far holds =
    let records_at = values_at key_cmp c.args.self.records.by_key in
    let signatures_at = values_at key_cmp c.args.self.signatures.by_key in
    let now_at = values_at key_cmp c.put-2.new.self.by_key in
    let covers : covered_set (signature_record c.args.rr) ≡ None = search rules in
    let forms : forms_rrset (rdata_type c.args.rr.rdata) ≡ true = search rules in
    let more : c.in_ok-sets.sets ≡ with_new same_set c.args.self.sets (name_of c.of-key.result) = search rules in
    let put : IsPut c.of-key.result c.args.rr records_at now_at = search rules in
    with_record c.args.self.sets records_at signatures_at so_far c.args.rr holds c.in_ok-sets.sets now_at
    c.of-key.result c.of-key.ensures covers forms more put
