use Rattle.std.proofs.Common.{arith}
use Rattle.sec_digest.proofs.Comparing.{one_more_same}
use Rattle.sec_digest.proofs.mac.same_octets.Goals as goal

pub loop-i-preserved : goal.loop-i-preserved
loop-i-preserved c = one_more_same c.args.a.now c.args.b.now c.loop-i.i c.loop-i.difference (omega arith) (omega arith)
    c.loop-i.invariant
