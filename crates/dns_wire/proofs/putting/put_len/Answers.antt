use Rattle.dns_wire.proofs.SinkSteps.{measured}
use Rattle.dns_wire.proofs.putting.put_len.Goals as goal

pub returns : goal.returns
returns g c =
    measured c.new-counter.result c.put.new.sink c.len.result _ _ c.new-counter.ensures c.in_ok-put.ensures c.len.ensures
