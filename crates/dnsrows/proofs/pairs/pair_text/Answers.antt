use Rattle.std.proofs.Common.{map, refl, ap, ◌∙◌}
use Rattle.dns_message.specs.Parts.{record_view}
use Rattle.dns_rows.specs.CallTexts.{text_or_none}
use Rattle.sec_sign.specs.Pairs.{ZoneKey, lent_key, set_named}
use Rattle.sec_sign.specs.Sets.{SetName}
use Rattle.dnsrows.specs.Pairs.{verdict_among, verdict_word}
use Rattle.dnsrows.proofs.PairSteps.{pair_by_values}
use Rattle.dnsrows.proofs.pairs.pair_text.Goals as goal

pub returns : goal.returns
returns c =
    let set : SetName = set_named c.args.set.now in
    let key : ZoneKey = lent_key c.args.key.now in
    c.in_ok-from_str-2.ensures.ok ∙ c.verdict_word.ensures
    ∙ ap verdict_word (c.in_ok-verdict.ensures ∙ pair_by_values c.args.moment set key c.in-Some.rrsig.now
    c.args.answers.now (c.in-Some.ensures.as_read c.in-Some.rrsig refl) c.requires)
    ∙ ap (text_or_none (λ rr. verdict_word (verdict_among c.args.moment set key (map record_view c.args.answers.now) rr)))
    c.in-Some.ensures.found
