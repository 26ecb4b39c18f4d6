use Rattle.dns_wire.proofs.PutLaws.{HasPut}
use Rattle.dns_wire.proofs.pieces.put_each.Given as goal

abbrev pub invariant-loop-value : goal.invariant-loop-value
invariant-loop-value g l =
    HasPut g.S.OctetSink.has_taken (g.T.Putting.written l.form.canonical_form l.form.name_encoding) l.values l.value-index
    l.fn.sink l.sink
