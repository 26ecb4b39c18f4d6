use Rattle.std.proofs.Common.{sym, arith}
use Rattle.dnscheck.proofs.Counting.{marked_one, marked_all}
use Rattle.dnscheck.proofs.counts.Counts.with_marks.Goals as goal

pub sets-preserved : goal.sets-preserved
sets-preserved c =
    marked_one c.args.self c.args.sets.now c.sets.counts c.in_ok-counts.counts c.sets.set-index _ c.set-item.result
    c.sets-test.true (sym c.set-item.is) c.in_ok-counts.ensures c.sets.invariant

pub returns : goal.returns
returns c =
    marked_all c.args.self c.args.sets.now c.sets.counts c.sets.set-index (omega (arith, c.sets-test.false))
    c.sets.invariant
