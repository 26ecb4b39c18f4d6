use Rattle.dnscheck.proofs.Counting.{HasMarked}
use Rattle.dnscheck.proofs.counts.Counts.with_marks.Given as goal

abbrev pub invariant-sets : goal.invariant-sets
invariant-sets l = HasMarked l.fn.self l.sets l.counts l.set-index
