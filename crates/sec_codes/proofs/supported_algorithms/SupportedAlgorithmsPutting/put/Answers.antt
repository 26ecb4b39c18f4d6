use Rattle.std.proofs.Common.{◌∙◌, sym, arith, length-set}
use Rattle.sec_codes.specs.AlgorithmSets.{seven}
use Rattle.sec_codes.proofs.Added.{number_kept, number_passed}
use Rattle.sec_codes.proofs.supported_algorithms.SupportedAlgorithmsPutting.put.Goals as goal
use Rattle.sec_codes.proofs.supported_algorithms.SupportedAlgorithmsPutting.put.Goals.{then-has, else-has}

pub members-preserved : goal.members-preserved
members-preserved g c =
    elim c.if-has.branch [
      | then-has w ↦ record {
        inside = omega arith;
        kept = rw (w.numbers-is, w.count-is, w.from.ensures)
            (number_kept c.args.self.now seven c.members.algorithm-index c.members.count c.members.numbers
            c.members-test.true (omega arith) c.members.invariant.kept (sym c.has.ensures ∙ w.if-has.true));
        room = rw (w.numbers-is, length-set) c.members.invariant.room;
      }
      | else-has w ↦ record {
        inside = omega arith;
        kept = rw (w.numbers-is, w.count-is) (c.members.invariant.kept
            ∙ number_passed c.args.self.now seven c.members.algorithm-index c.members-test.true
            (sym c.has.ensures ∙ w.if-has.false));
        room = rw w.numbers-is c.members.invariant.room;
      }
    ]
