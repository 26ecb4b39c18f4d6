use Rattle.dns_names.proofs.Chains.{cache_none}
use Rattle.dns_names.proofs.pointer_cache.with_whole_cache.Goals as goal

pub read-requires : goal.read-requires
read-requires g c = c.requires _ (cache_none _ 16384)

pub returns : goal.returns
returns g c = (_, _, cache_none _ 16384, c.read.ensures)
