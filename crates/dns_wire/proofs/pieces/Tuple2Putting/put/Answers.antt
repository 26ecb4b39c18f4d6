use Rattle.dns_wire.proofs.PutLaws.{puts_both}
use Rattle.dns_wire.proofs.pieces.Tuple2Putting.put.Goals as goal

pub returns : goal.returns
returns g c =
    puts_both g.S.OctetSink.has_taken _ _ _ c.in_ok-put.field-0 c.put-2.result _ _ c.in_ok-put.ensures c.put-2.ensures
