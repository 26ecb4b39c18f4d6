use Rattle.dns_names.specs.NameLaws.{low_is_lowered}
use Rattle.dns_names.proofs.laws.lowered_name_is_lowered.Goals as goal

pub returns : goal.returns
returns c = low_is_lowered
