use Rattle.std.proofs.Common.{sym, arith}
use Rattle.check_script.proofs.Taken.{taken_one, taken_all}
use Rattle.check_script.proofs.answers.check_all.Goals as goal

pub answers-preserved : goal.answers-preserved
answers-preserved g c = record {
  number = omega (arith, c.answers.invariant.number);
  taken = taken_one g.T.AnswerTaker.taking (g.S.SignatureScheme.accepts c.args.scheme.now) c.args.answers.now
      c.args.taker.now c.args.checker c.answers.answer-index c.answers.taker c.check_answer.new.taker
      c.answers.checker c.check_answer.new.checker c.answers.accepted c.in_ok-accepted.field-0 c.answers.number _
      c.answer-item.result c.answers-test.true (sym c.answer-item.is) c.answers.invariant.taken
      c.answers.invariant.number c.in_ok-accepted.ensures.taken c.in_ok-accepted.ensures.accepted
      c.in_ok-accepted.ensures.chain c.in_ok-accepted.ensures.entries;
}

pub returns-clause-taken : goal.returns-clause-taken
returns-clause-taken g c =
    (taken_all g.T.AnswerTaker.taking (g.S.SignatureScheme.accepts c.args.scheme.now) c.args.answers.now
    c.args.taker.now c.args.checker c.answers.answer-index c.answers.taker c.answers.checker c.answers.accepted
    (omega (arith, c.answers-test.false)) c.answers.invariant.taken).0

pub returns-clause-accepted : goal.returns-clause-accepted
returns-clause-accepted g c =
    (taken_all g.T.AnswerTaker.taking (g.S.SignatureScheme.accepts c.args.scheme.now) c.args.answers.now
    c.args.taker.now c.args.checker c.answers.answer-index c.answers.taker c.answers.checker c.answers.accepted
    (omega (arith, c.answers-test.false)) c.answers.invariant.taken).1
