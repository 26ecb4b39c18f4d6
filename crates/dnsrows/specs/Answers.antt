-- What lines of calls are answered.
use Rattle.std.specs.Prelude.{ℕ, List, [], ◌∷◌, Result, Err}
use Rattle.dns_rows.specs.declared.refusal.Refusal.{Refusal}
use Rattle.dns_rows.specs.declared.refusal.Refusal.TheVariants.{NoCall}
use Rattle.dns_rows.specs.Refusals.{answer_text}
use Rattle.dnsrows.specs.Scripts.{script_calls}

-- what the words of a line are answered: the first is that of the call
abbrev pub call_answer : List (List ℕ) → Result (List ℕ) Refusal
call_answer [] = Err NoCall
call_answer (word ∷ others) = script_calls word others

abbrev pub answer_line : List (List ℕ) → List ℕ
answer_line words = answer_text (call_answer words)
