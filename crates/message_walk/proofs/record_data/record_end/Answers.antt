use Rattle.std.proofs.Common.{◌∙◌, ap, sym, rules, Ok, Result, ℕ}
use Rattle.dns_wire.specs.declared.error.DecodeError.{DecodeError}
use Rattle.dns_wire.specs.Reading.{octets, place}
use Rattle.message_walk.proofs.RecordSteps.{no_head_skipped, skipped_behind}
use Rattle.message_walk.proofs.record_data.record_end.Goals as goal

pub returns-in_err-rtype-clause-exact : goal.returns-in_err-rtype-clause-exact
returns-in_err-rtype-clause-exact c =
    let refused = no_head_skipped c.args.message.now c.args.start _ c.in_err-rtype.ensures.exact in
    search rules

pub returns-in_err-check_with-clause-exact : goal.returns-in_err-check_with-clause-exact
returns-in_err-check_with-clause-exact c =
    let refused = skipped_behind c.args.message.now (octets c.set_index.new.self) c.args.start c.in_ok-rtype.rtype
    c.in_ok-rtype.length c.in_ok-rtype.place (place c.set_index.new.self) _ c.in_ok-rtype.ensures.exact
    (c.set_index.ensures.octets ∙ c.new-reader.ensures.octets) c.set_index.ensures.place
    c.in_err-check_with.ensures.checked.exact.0 in
    search rules

pub returns-clause-exact : goal.returns-clause-exact
returns-clause-exact c =
    skipped_behind c.args.message.now (octets c.set_index.new.self) c.args.start c.in_ok-rtype.rtype
    c.in_ok-rtype.length c.in_ok-rtype.place (place c.set_index.new.self) _ c.in_ok-rtype.ensures.exact
    (c.set_index.ensures.octets ∙ c.new-reader.ensures.octets) c.set_index.ensures.place
    (c.in_ok-check_with.ensures.checked.exact.0
    ∙ ap (λ (k : ℕ). let ok : Result (Unit {0} × ℕ) DecodeError = Ok (tt, k) in ok) (sym c.index.ensures.place))
