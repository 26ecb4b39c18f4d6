use Rattle.std.proofs.lemmas.Result.{err_from_is_err_and}
use Rattle.dns_wire.proofs.PutLaws.{put_all, put_fails, put_more}
use Rattle.dns_wire.proofs.pieces.put_each.Goals as goal

pub loop-value-preserved : goal.loop-value-preserved
loop-value-preserved g c =
    put_more g.S.OctetSink.has_taken (g.T.Putting.written c.args.form.canonical_form c.args.form.name_encoding)
    c.args.values.now c.loop-value.value-index c.value-item.result _ _ _ c.in_ok-put.field-0 c.loop-value-test.true
    c.value-item.is c.loop-value.invariant c.in_ok-put.ensures

pub returns-in_err-put : goal.returns-in_err-put
returns-in_err-put g c =
    let p = err_from_is_err_and c.from_residual.result c.from_residual.ensures.1 in
    rw (p.1, p.2) (put_fails g.S.OctetSink.has_taken
    (g.T.Putting.written c.args.form.canonical_form c.args.form.name_encoding)
    c.args.values.now c.loop-value.value-index c.value-item.result _ _ _ _ c.loop-value-test.true c.value-item.is
    c.loop-value.invariant c.in_err-put.ensures)

pub returns : goal.returns
returns g c =
    put_all g.S.OctetSink.has_taken (g.T.Putting.written c.args.form.canonical_form c.args.form.name_encoding)
    c.args.values.now c.loop-value.value-index _ _ _ c.loop-value-test.false c.loop-value.invariant
