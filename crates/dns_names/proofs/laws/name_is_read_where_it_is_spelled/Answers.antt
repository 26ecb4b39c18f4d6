use Rattle.dns_names.proofs.TextLaws.{name_spelled, name_read}
use Rattle.dns_names.proofs.laws.name_is_read_where_it_is_spelled.Goals as goal

pub returns : goal.returns
returns c text n = (name_spelled text n, λ h. name_read text n h.0 h.1)
