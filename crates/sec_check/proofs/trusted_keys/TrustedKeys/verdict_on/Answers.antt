use Rattle.std.proofs.Common.{sym, ap, ◌∙◌, List, map}
use Rattle.sec_anchor.specs.Entries.{EntryData, entry_data}
use Rattle.sec_sign.specs.declared.pair.PairVerdict.{PairVerdict}
use Rattle.sec_sign.specs.Pairs.{SignatureRecord, record_verdict, signature_record}
use Rattle.sec_sign.specs.Sets.{SetName}
use Rattle.sec_sign.specs.Verifying.{Relation}
use Rattle.sec_check.specs.Marks.{strongest, zone_key}
use Rattle.sec_check.proofs.KeyVerdicts.{is_answer, strongest_named, strongest_unsigned}
use Rattle.sec_check.proofs.trusted_keys.TrustedKeys.verdict_on.Goals as goal

pub returns-in_default : goal.returns-in_default
returns-in_default g c =
    strongest_unsigned (g.S.SignatureScheme.accepts c.args.scheme.now) c.args.moment
    record { name = c.args.name.now; dns_class = c.args.dns_class; rtype = c.args.rtype } c.args.set.now
    (signature_record c.args.rr.now) (sym c.in_rrsig.ensures ∙ c.in_default.is) c.args.self.now

pub returns : goal.returns
returns g c =
    let accepts : Relation = g.S.SignatureScheme.accepts c.args.scheme.now in
    let set : SetName = record { name = c.args.name.now; dns_class = c.args.dns_class; rtype = c.args.rtype } in
    let signature : SignatureRecord = signature_record c.args.rr.now in
    let verdict : EntryData → PairVerdict =
    λ (entry : EntryData). record_verdict accepts c.args.moment set (zone_key entry) c.args.set.now signature in
    let entries : List EntryData = map entry_data c.self.inside.entries.now in
    is_answer _ _ _ c.strongest_at.ensures
    (strongest_named accepts c.args.moment set c.args.set.now signature entries c.self.inside.by_name.now.by_key
    c.self.invariant c.in-Some.key_lookup (sym c.in_rrsig.ensures ∙ c.in-Some.is) c.get.result.now c.get.ensures
    ∙ ap (λ (es : List EntryData). strongest (map verdict es)) c.self.view_is)
