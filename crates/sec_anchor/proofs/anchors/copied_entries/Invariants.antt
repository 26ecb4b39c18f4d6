use Rattle.std.proofs.Common.{◌≡◌, take}
use Rattle.std.specs.Prelude.{map}
use Rattle.sec_anchor.specs.Anchors.{held}
use Rattle.sec_anchor.proofs.anchors.copied_entries.Given as goal

abbrev pub invariant-loop-entry : goal.invariant-loop-entry
invariant-loop-entry l = map held l.copies.items
    ≡ map held (take l.entry-index l.keys)
