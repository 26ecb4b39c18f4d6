use Rattle.std.proofs.lemmas.Result.{err_from_is_err_and}
use Rattle.dns_wire.specs.declared.error.EmitError.TheVariants.{StringTooLong}
use Rattle.dns_wire.proofs.PutLaws.{put_all, put_fails, put_more}
use Rattle.dns_grammar.specs.Fields.{One, counted_octets}
use Rattle.dns_grammar.proofs.field_out.put_strings.Goals as goal

pub loop-string-preserved : goal.loop-string-preserved
loop-string-preserved g c =
    put_more g.S.OctetSink.has_taken (counted_octets One StringTooLong) c.args.strings.now c.loop-string.string-index
    c.string-item.result _ _ _ c.in_ok-put_string.field-0 c.loop-string-test.true c.string-item.is
    c.loop-string.invariant c.in_ok-put_string.ensures

pub returns-in_err-put_string : goal.returns-in_err-put_string
returns-in_err-put_string g c =
    let p = err_from_is_err_and c.from_residual.result c.from_residual.ensures.1 in
    rw (p.1, p.2) (put_fails g.S.OctetSink.has_taken (counted_octets One StringTooLong) c.args.strings.now
    c.loop-string.string-index c.string-item.result _ _ _ _ c.loop-string-test.true c.string-item.is
    c.loop-string.invariant c.in_err-put_string.ensures)

pub returns : goal.returns
returns g c =
    put_all g.S.OctetSink.has_taken (counted_octets One StringTooLong) c.args.strings.now c.loop-string.string-index
    _ _ _ c.loop-string-test.false c.loop-string.invariant
