use Rattle.std.proofs.Common.{◌≡◌, length}
use Rattle.dns_names.specs.Names.{wire}
use Rattle.dns_names.specs.Places.{name_at}
use Rattle.dns_names.specs.PointerCache.{IsPointerCache}
use Rattle.dns_names.specs.LabelReading.{to_read, ahead}
use Rattle.dns_names.proofs.Chains.{whole}
use Rattle.dns_names.proofs.reading.read_at.Given as goal

abbrev pub invariant-steps : goal.invariant-steps
invariant-steps l = record {
  octets : l.reader.octets.now ≡ l.octets;
  cache : IsPointerCache l.octets l.cache;
  size : l.reader.size ≡ length (wire l.name);
  reads : whole l.name (to_read l.reader) ≡ name_at l.octets l.fn.place l.fn.end;
}

abbrev pub decreases-steps : goal.decreases-steps
decreases-steps l = ahead l.reader
