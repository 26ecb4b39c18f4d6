use Rattle.std.proofs.Common.{◌≡◌, ◌≤◌, drop, length}
use Rattle.dns_names.specs.PointerCache.{IsPointerCache}
use Rattle.dns_c.proofs.PlacesPut.{first_put}
use Rattle.dns_c.proofs.records.put_places.Given as goal

abbrev pub invariant-records : goal.invariant-records
invariant-records l = record {
  left : l.walk.left ≡ drop l.count l.fn.walk.left;
  written : l.out ≡ first_put l.initial.out l.fn.walk.left l.count;
  few : l.count ≤ length l.fn.walk.left;
  same : l.walk.message ≡ l.fn.walk.message;
  cache : IsPointerCache l.walk.message l.cache;
}

abbrev pub decreases-records : goal.decreases-records
decreases-records l = length l.walk.left
