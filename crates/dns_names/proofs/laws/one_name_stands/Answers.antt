use Rattle.dns_names.proofs.PlaceLaws.{name_at_one}
use Rattle.dns_names.proofs.laws.one_name_stands.Goals as goal

pub returns : goal.returns
returns c = name_at_one
