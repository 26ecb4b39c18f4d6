use Rattle.dns_names.proofs.PlaceLaws.{name_at_sound, name_at_complete}
use Rattle.dns_names.proofs.laws.name_is_read_where_it_stands.Goals as goal

pub returns : goal.returns
returns c m p e n q within = (name_at_sound m p e n q within, name_at_complete m p e n q)
