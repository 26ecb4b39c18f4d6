use Rattle.std.proofs.Common.{inl, inr}
use Rattle.sec_anchor.proofs.LineSteps.{refuses_in_line}
use Rattle.sec_anchor.proofs.parser.next_word_in_line.Goals as goal

pub returns-in-Err : goal.returns-in-Err
returns-in-Err c = elim c.in-Err.ensures [ inl e ↦ inl e | inr h ↦ inr (refuses_in_line _ _ h) ]
