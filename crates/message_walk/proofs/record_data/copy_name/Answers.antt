use Rattle.std.proofs.Common.{◌∙◌, List, ℕ, Result, Ok, ap, sym}
use Rattle.dns_wire.specs.declared.error.EmitError.{EmitError}
use Rattle.dns_wire.specs.Reading.{octets, place}
use Rattle.dns_names.specs.Names.{wire}
use Rattle.message_walk.proofs.CopySteps.{appended, name_copied, no_name_copied}
use Rattle.message_walk.proofs.record_data.copy_name.Goals as goal

pub returns-in-Ok-clause-exact : goal.returns-in-Ok-clause-exact
returns-in-Ok-clause-exact c =
    let copied = name_copied c.args.is_lowered (octets c.args.decoder.now) (place c.args.decoder.now) c.args.end
    c.in-Ok.name _ c.in-Ok.ensures.exact.0 in
    let written = c.as_wire.ensures.value ∙ ap wire c.canonical.ensures in
    appended _ _ _ _ _ (copied.0 ∙ ap (λ (l : List ℕ). let ok : Result (List ℕ) EmitError = Ok l in ok) (sym written))
    c.append.ensures

pub returns-in-Err-clause-exact : goal.returns-in-Err-clause-exact
returns-in-Err-clause-exact c = no_name_copied c.args.is_lowered _ _ _ _ _ c.in-Err.ensures.exact.0
