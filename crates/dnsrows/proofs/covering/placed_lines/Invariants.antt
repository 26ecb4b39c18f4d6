use Rattle.std.proofs.Common.{◌≡◌, map}
use Rattle.std.specs.String.{string_bytes}
use Rattle.dnsrows.proofs.PlaceSteps.{HasPlaced}
use Rattle.dnsrows.proofs.covering.placed_lines.Given as goal

abbrev pub invariant-records : goal.invariant-records
invariant-records l = record {
  octets : l.walk.message ≡ l.message;
  placed : HasPlaced l.message l.rr-index l.walk.left (map string_bytes l.lines.items);
}
