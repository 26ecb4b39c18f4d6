use Rattle.sec_check.proofs.KeyPositions.{HasFound}
use Rattle.sec_check.proofs.trusted_entries.index_of.Given as goal

abbrev pub invariant-loop-position : goal.invariant-loop-position
invariant-loop-position l = HasFound l.index.by_key l.position l.entries
