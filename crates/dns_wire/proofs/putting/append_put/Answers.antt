use Rattle.std.proofs.Common.{rules, subst, sym, ◌∙◌}
use Rattle.dns_wire.specs.declared.error.EmitError.TheVariants.{OutOfMemory}
use Rattle.std.proofs.Common.{Err}
use Rattle.dns_wire.specs.Growing.{Grows}
use Rattle.dns_wire.proofs.SinkSteps.{appended_all, appended_some}
use Rattle.dns_wire.proofs.putting.append_put.Goals as goal

pub returns-then-is_full : goal.returns-then-is_full
returns-then-is_full g c =
    subst (Grows (Err OutOfMemory) c.args.encoder.now _)
    (λ i. g.T.Putting.written (c.is_canonical_form.ensures i) (c.name_encoding.ensures i) c.args.value.now)
    (appended_some _ _ _ _ _ _ _ c.new-sink.ensures c.put-result.ensures (search rules))

pub returns : goal.returns
returns g c =
    subst (Grows c.put-result.result c.args.encoder.now _)
    (λ i. g.T.Putting.written (c.is_canonical_form.ensures i) (c.name_encoding.ensures i) c.args.value.now)
    (appended_all _ _ _ _ _ _ _ (sym c.is_full.ensures ∙ c.if-is_full.false) c.new-sink.ensures c.put-result.ensures
    (search rules))
