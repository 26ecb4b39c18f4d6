-- Data below those at `low` are less, and those from `high` on are greater.
use Rattle.std.proofs.Common.{◌-◌, ◌≡◌}
use Rattle.rrsig_input.proofs.PlaceLists.{Between}
use Rattle.rrsig_input.proofs.place_list.gap_for.Given as goal

abbrev pub invariant-halves : goal.invariant-halves
invariant-halves g l = record {
  between : Between (g.D.DataByPlace.canonical (g.D.DataByPlace.source l.fn.records)) l.places l.low l.high
      (g.D.DataByPlace.canonical (g.D.DataByPlace.source l.fn.records) l.place);
  source : g.D.DataByPlace.source l.records ≡ g.D.DataByPlace.source l.fn.records;
}

abbrev pub decreases-halves : goal.decreases-halves
decreases-halves g l = l.high - l.low
