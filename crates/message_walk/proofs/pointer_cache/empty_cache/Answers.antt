use Rattle.dns_names.proofs.Chains.{cache_none}
use Rattle.message_walk.proofs.pointer_cache.empty_cache.Goals as goal

pub returns : goal.returns
returns c = λ message. cache_none message 16384
