use Rattle.std.proofs.Common.{◌≡◌}
use Rattle.dns_names.specs.Places.{name_at}
use Rattle.dns_names.specs.PointerCache.{IsPointerCache}
use Rattle.dns_names.specs.Skipping.{without_value}
use Rattle.dns_names.specs.LabelReading.{to_read, ahead}
use Rattle.dns_names.proofs.reading.skip_at.Given as goal

abbrev pub invariant-steps : goal.invariant-steps
invariant-steps l = record {
  octets : l.reader.octets.now ≡ l.octets;
  cache : IsPointerCache l.octets l.cache;
  skips : without_value (to_read l.reader) ≡ without_value (name_at l.octets l.fn.place l.fn.end);
}

abbrev pub decreases-steps : goal.decreases-steps
decreases-steps l = ahead l.reader
