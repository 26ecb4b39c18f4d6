use Rattle.std.proofs.Common.{arith}
use Rattle.sec_digest.proofs.Blocks.{one_more, whole}
use Rattle.sec_digest.proofs.hmac.padded_key.Goals as goal

pub loop-i-preserved : goal.loop-i-preserved
loop-i-preserved g c = one_more c.args.key.now c.loop-i.block g.row.N c.loop-i.i c.args.pad c.loop-i.invariant
    (omega arith) (omega arith)

pub returns : goal.returns
returns g c = whole c.args.key.now c.loop-i.block g.row.N c.loop-i.i c.args.pad c.loop-i.invariant (omega arith)
    (omega arith)
