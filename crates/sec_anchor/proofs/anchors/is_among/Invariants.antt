use Rattle.std.proofs.Common.{drop}
use Rattle.std.specs.Prelude.{map}
use Rattle.sec_codes.specs.KeptKeys.{kept_key}
use Rattle.sec_anchor.specs.Anchors.{IsAmong}
use Rattle.sec_anchor.proofs.anchors.is_among.Given as goal

-- the key is among all where it is among those that are left
abbrev pub invariant-loop-kept : goal.invariant-loop-kept
invariant-loop-kept l = record {
  inward : IsAmong (record { octets = l.octets; algorithm = l.algorithm }) (map kept_key (drop l.kept-index l.keys))
      → IsAmong (record { octets = l.octets; algorithm = l.algorithm }) (map kept_key l.keys);
  outward : IsAmong (record { octets = l.octets; algorithm = l.algorithm }) (map kept_key l.keys)
      → IsAmong (record { octets = l.octets; algorithm = l.algorithm }) (map kept_key (drop l.kept-index l.keys));
}
