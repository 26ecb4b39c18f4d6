use Rattle.std.proofs.Common.{◌<◌, ◌+◌, ◌-◌, vec_len}
use Rattle.dns_io.proofs.Loops.{HasRead}
use Rattle.dns_io.specs.declared.transfer.TheConstants.{INPUT_LIMIT}
use Rattle.dns_io.proofs.transfer.read_all.Given as goal

abbrev pub invariant-pieces : goal.invariant-pieces
invariant-pieces g l = (0 < vec_len l.piece)
    × HasRead (g.S.Source.left l.initial.source) (g.S.Source.left l.source) (g.S.Source.taken l.initial.source)
    (g.S.Source.taken l.source) (g.S.Source.faults l.initial.source) (g.S.Source.faults l.source) l.content.items

abbrev pub decreases-pieces : goal.decreases-pieces
decreases-pieces g l = INPUT_LIMIT + 1 - vec_len l.content
