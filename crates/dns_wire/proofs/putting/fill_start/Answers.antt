use Rattle.std.proofs.Common.{rules}
use Rattle.dns_wire.proofs.SinkSteps.{written_start}
use Rattle.dns_wire.proofs.putting.fill_start.Goals as goal

pub returns : goal.returns
returns g c = written_start _ _ _ _ _ _ _ c.new-writer.ensures c.put.ensures c.requires.fits (search rules)
