use Rattle.dns_names.proofs.Written.{written_name}
use Rattle.dns_names.proofs.laws.written_name_stands.Goals as goal

pub returns : goal.returns
returns c = written_name
