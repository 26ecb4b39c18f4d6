use Rattle.std.proofs.lemmas.List.{take_rest}
use Rattle.dns_io.proofs.Loops.{written_on}
use Rattle.dns_io.proofs.transfer.write_all.Goals as goal

pub pieces-preserved : goal.pieces-preserved
pieces-preserved g c = written_on _ _ _ _ _ _ _ _ _ _ c.pieces.invariant c.in_ok-count.ensures.octets
    c.in_ok-count.ensures.faults (take_rest c.pieces.rest.now c.in_ok-count.count)
