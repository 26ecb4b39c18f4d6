use Rattle.sec_digest.proofs.PutMacs.{mac_of}
use Rattle.sec_digest.proofs.hmac_sink.mac_of_put.Goals as goal

pub returns : goal.returns
returns g c =
    mac_of c.args.hash c.args.key.now c.new-hasher.result c.put.new.sink c.finish.result _ _ c.new-hasher.ensures
    c.in_ok-put.ensures c.finish.ensures.value
