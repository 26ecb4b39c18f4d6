use Rattle.dns_names.proofs.AboveBelow.{zone_decides}
use Rattle.dns_names.proofs.name.Name.zone_of.Goals as goal

pub returns : goal.returns
returns c = rw (c.eq.ensures, c.trim_to.ensures.value, c.label_count.ensures)
    (zone_decides c.args.self.now c.args.other.now)
