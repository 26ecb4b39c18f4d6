use Rattle.std.proofs.Common.{sym, ◌∙◌, arith}
use Rattle.sec_check.proofs.KeyPositions.{found_named, found_none, found_unnamed}
use Rattle.sec_check.proofs.trusted_entries.index_of.Goals as goal
use Rattle.sec_check.proofs.trusted_entries.index_of.Goals.{in-Some+in_ok-put, in_default}

pub loop-position-init : goal.loop-position-init
loop-position-init c = found_none c.args.entries.now c.new-index.result.by_key c.new-index.ensures

pub loop-position-preserved : goal.loop-position-preserved
loop-position-preserved c =
    let entries = c.args.entries.now in
    let i = c.loop-position.position in
    let entry = c.index-entries-position in
    let found = c.loop-position.invariant in
    elim c.match-of_entry.branch [
      | in-Some+in_ok-put w
          ↦ rw w.index-is (found_named entries i (omega arith) entry.result entry.is _ found _
          (sym c.of_entry.ensures ∙ w.in-Some.is) _ w.in_ok-put.ensures)
      | in_default w
          ↦ rw w.index-is (found_unnamed entries i (omega arith) entry.result entry.is _ found
          (sym c.of_entry.ensures ∙ w.in_default.is))
    ]
