use Rattle.dns_names.proofs.PlaceLaws.{name_of_octets}
use Rattle.dns_names.proofs.laws.standing_name_is_name.Goals as goal

pub returns : goal.returns
returns c = name_of_octets
