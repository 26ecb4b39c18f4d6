use Rattle.std.proofs.Common.{inl, inr}
use Rattle.sec_anchor.proofs.LineSteps.{refuses_word}
use Rattle.sec_anchor.proofs.parser.next_word.Goals as goal

pub returns-in-Err : goal.returns-in-Err
returns-in-Err c = elim c.in-Err.ensures [ inl e ↦ inl e | inr h ↦ inr (refuses_word _ _ h) ]
