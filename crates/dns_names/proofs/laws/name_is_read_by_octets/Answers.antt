use Rattle.std.proofs.Common.{refl}
use Rattle.dns_names.specs.Places.{name_at}
use Rattle.dns_names.proofs.PlaceLaws.{read_labels-octet}
use Rattle.dns_names.proofs.laws.name_is_read_by_octets.Goals as goal

pub returns-clause-begins : goal.returns-clause-begins
unfolding name_at
returns-clause-begins c m p e = refl

pub returns-clause-goes_on : goal.returns-clause-goes_on
returns-clause-goes_on c = read_labels-octet
