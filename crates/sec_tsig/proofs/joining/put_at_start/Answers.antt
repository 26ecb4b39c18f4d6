use Rattle.std.proofs.Common.{rules}
use Rattle.dns_wire.proofs.SinkSteps.{written_start}
use Rattle.sec_tsig.proofs.Joins.{start_filled}
use Rattle.sec_tsig.proofs.joining.put_at_start.Goals as goal

pub returns : goal.returns
returns g c octets is =
    start_filled _ _ _ _ _ octets c.unwrap.ensures is
    (written_start _ _ _ _ _ _ _ c.new-writer.ensures c.put.ensures c.requires (search rules))
