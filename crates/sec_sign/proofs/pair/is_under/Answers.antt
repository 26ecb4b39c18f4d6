use Rattle.std.proofs.lemmas.Bool.Decides.{same_from_decides}
use Rattle.dns_names.proofs.AboveBelow.{zone_decides}
use Rattle.sec_sign.specs.Pairs.{is_under}
use Rattle.sec_sign.proofs.pair.is_under.Goals as goal

pub returns : goal.returns
returns c = same_from_decides c.zone_of.result (is_under c.args.name.now c.args.zone.now) c.zone_of.ensures
    (zone_decides c.args.zone.now c.args.name.now)
