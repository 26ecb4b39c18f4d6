use Rattle.std.proofs.Common.{rules, ◌≡◌, true}
use Rattle.dns_names.specs.NameLaws.{same_decides}
use Rattle.dns_names.specs.Names.{same}
use Rattle.dnsrows.proofs.signing.push_same.Goals as goal

pub push-requires-clause-name : goal.push-requires-clause-name
push-requires-clause-name c =
    let is : same c.args.rr.name c.args.set.now.name ≡ true = search rules in
    (same_decides c.args.rr.name c.args.set.now.name).0 is
