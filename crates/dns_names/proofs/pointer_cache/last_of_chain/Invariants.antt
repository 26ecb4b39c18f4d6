use Rattle.std.proofs.Common.{◌≤◌}
use Rattle.dns_names.specs.PointerCache.{LeadsTo, IsPointerCache}
use Rattle.dns_names.proofs.pointer_cache.last_of_chain.Given as goal

abbrev pub invariant-loop-place : goal.invariant-loop-place
invariant-loop-place l = record {
  cache : IsPointerCache l.octets l.cache;
  leads : l.last ≤ l.place → LeadsTo l.octets l.place l.last;
  reached : l.place ≤ l.first;
}

abbrev pub decreases-loop-place : goal.decreases-loop-place
decreases-loop-place l = l.place
