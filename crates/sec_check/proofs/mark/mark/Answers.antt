use Rattle.std.proofs.Common.{rules, ◌≡◌, ◌∙◌, ap, map, List, ℕ, Result}
use Rattle.dns_wire.specs.declared.error.EmitError.{EmitError}
use Rattle.sec_sign.specs.Pairs.{signature_record}
use Rattle.sec_sign.specs.Sets.{set_data}
use Rattle.sec_check.specs.Marks.{Trust, mark_by, strongest_pair}
use Rattle.sec_check.specs.SectionRecords.{name_of}
use Rattle.sec_check.proofs.mark.mark.Goals as goal

pub returns : goal.returns
returns g c =
    let trust : Trust =
    record { accepts = g.S.SignatureScheme.accepts c.args.scheme.now; moment = c.args.moment; entries = c.args.keys.now } in
    let set = name_of c.args.set.now in
    let signatures = map signature_record c.args.signatures.now in
    let found : c.in_ok-verdict.verdict ≡ strongest_pair trust set c.in_ok-octets.octets signatures = search rules in
    let octets : c.in_ok-octets.octets ≡ set_data set c.args.records.now = search rules in
    c.mark_by.ensures
    ∙ ap mark_by
    (found ∙ ap (λ (o : Result (List (List ℕ)) EmitError). strongest_pair trust set o signatures) octets)
