use Rattle.std.proofs.Common.{◌≡◌, ◌∙◌, ◌∷◌, [], List, ℕ, Result, Ok, ap, sym, subst}
use Rattle.std.specs.Prelude.{slice_range}
use Rattle.dns_wire.specs.declared.error.EmitError.{EmitError}
use Rattle.dns_wire.specs.Octets.{AreOctets}
use Rattle.dns_wire.specs.Reading.{octets, place}
use Rattle.dns_grammar.specs.FieldKinds.{kind_field}
use Rattle.dns_rdata.specs.FieldChecks.{tested_field}
use Rattle.message_walk.proofs.CopySteps.{appended, octets_copied, nothing_copied}
use Rattle.message_walk.proofs.record_data.copy_octets.Goals as goal

pub returns-in-Ok-clause-exact : goal.returns-in-Ok-clause-exact
returns-in-Ok-clause-exact c =
    let are : AreOctets (octets c.args.decoder.now) = subst AreOctets c.buffer-octets.ensures c.are_octets.ensures in
    let copied = octets_copied (kind_field tested_field c.args.field.now) (octets c.args.decoder.now)
    (place c.args.decoder.now) c.args.end (place c.skip.new.decoder) are c.requires.inside c.requires.no_name
    c.in-Ok.ensures.exact.0 in
    let written : slice_range (octets c.args.decoder.now) (place c.args.decoder.now) (place c.skip.new.decoder)
    ≡ slice_range c.buffer-octets.result.now c.index-start.result c.index.result =
    sym (λ i. slice_range (c.buffer-octets.ensures i) (c.index-start.ensures.place i) (c.index.ensures.place i)) in
    appended _ _ _ _ _ (copied ∙ ap (λ (l : List ℕ). let ok : Result (List ℕ) EmitError = Ok l in ok) written)
    c.append.ensures

pub returns-in-Err-clause-exact : goal.returns-in-Err-clause-exact
returns-in-Err-clause-exact c =
    nothing_copied (kind_field tested_field c.args.field.now ∷ []) _ _ _ _ _ c.in-Err.ensures.exact.0
