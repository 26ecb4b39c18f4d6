use Rattle.std.proofs.Common.{◌≡◌, ◌+◌}
use Rattle.check_script.proofs.Taken.{HasTaken}
use Rattle.check_script.proofs.answers.check_all.Given as goal

abbrev pub invariant-answers : goal.invariant-answers
invariant-answers g l = record {
  number : l.number ≡ l.answer-index + 1;
  taken : HasTaken g.T.AnswerTaker.taking (g.S.SignatureScheme.accepts l.fn.scheme) l.answers l.initial.taker
      l.fn.checker l.answer-index l.taker l.checker l.accepted;
}
