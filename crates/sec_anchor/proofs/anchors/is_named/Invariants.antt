use Rattle.std.proofs.Common.{drop}
use Rattle.std.specs.Prelude.{map}
use Rattle.sec_anchor.specs.Anchors.{held, IsNamed}
use Rattle.sec_anchor.proofs.anchors.is_named.Given as goal

-- the key is named among all where it is among those that are left
abbrev pub invariant-loop-entry : goal.invariant-loop-entry
invariant-loop-entry l = record {
  inward : IsNamed l.name (record { octets = l.octets; algorithm = l.algorithm })
      (map held (drop l.entry-index l.keys))
      → IsNamed l.name (record { octets = l.octets; algorithm = l.algorithm })
      (map held l.keys);
  outward : IsNamed l.name (record { octets = l.octets; algorithm = l.algorithm })
      (map held l.keys)
      → IsNamed l.name (record { octets = l.octets; algorithm = l.algorithm })
      (map held (drop l.entry-index l.keys));
}
