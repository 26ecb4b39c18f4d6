use Rattle.std.proofs.Common.{◌≡◌, drop}
use Rattle.std.specs.Prelude.{map}
use Rattle.sec_anchor.specs.Entries.{entry_data}
use Rattle.sec_anchor.specs.Anchors.{anchors, add_entries}
use Rattle.sec_anchor.proofs.anchors.add_all.Given as goal

abbrev pub invariant-loop-entry : goal.invariant-loop-entry
invariant-loop-entry l = add_entries (anchors l.all) (map entry_data (drop l.entry-index l.entries))
    ≡ add_entries (anchors l.initial.all) (map entry_data l.entries)
