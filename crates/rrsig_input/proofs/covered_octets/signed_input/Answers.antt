use Rattle.std.proofs.Common.{◌≡◌, Err, refl, rules}
use Rattle.rrsig_input.specs.SignedSets.{signed_input}
use Rattle.rrsig_input.proofs.AnswerSteps.{more_labels, no_data}
use Rattle.rrsig_input.proofs.covered_octets.signed_input.Goals as goal

pub returns-in_default-determine_name : goal.returns-in_default-determine_name
returns-in_default-determine_name c = (
  more_labels c.args.message.now c.args.section c.args.owner.now c.args.dns_class c.args.start c.in_ok-input.input
      c.in_ok-input.ensures c.in_default-determine_name.field-0 c.in_default-determine_name.ensures.exact,
  refl,
)

pub returns-in_err-places : goal.returns-in_err-places
returns-in_err-places c =
    let none : signed_input c.args.message.now c.args.section c.args.owner.now c.args.dns_class c.args.start
    ≡ Err c.in_err-places.field-0.0 =
    no_data c.args.message.now c.args.section c.args.owner.now c.args.dns_class c.args.start c.in_ok-input.input
    c.in_ok-input.ensures c.in-Ok-determine_name.shown c.in-Ok-determine_name.ensures.exact c.in_err-places.field-0.0
    c.in_err-places.ensures.exact in
    rw none (search rules)
