use Rattle.dns_names.specs.PointerCache.{LeadsTo}
use Rattle.dns_names.proofs.pointer_cache.end_of_chain.Given as goal

abbrev pub invariant-loop-place : goal.invariant-loop-place
invariant-loop-place l = LeadsTo l.octets l.first l.place

abbrev pub decreases-loop-place : goal.decreases-loop-place
decreases-loop-place l = l.place
