-- What lines of calls are answered.
use Rattle.std.specs.Prelude.{ℕ, List, [], ◌∷◌, Result, Err}
use Rattle.dns_io.specs.declared.status.Status.TheVariants.{Accepted}
use Rattle.dns_script.specs.Sessions.{Session, only}
use Rattle.dns_rows.specs.declared.refusal.Refusal.{Refusal}
use Rattle.dns_rows.specs.declared.refusal.Refusal.TheVariants.{NoCall}
use Rattle.dns_rows.specs.Refusals.{answer_text}
use Rattle.dns_rows.specs.Rows.{rows_text}
use Rattle.dnsshow.specs.NameCalls.{name_calls}

-- what the words of a line are answered: the first is that of the call
abbrev pub call_answer : List (List ℕ) → Result (List ℕ) Refusal
call_answer [] = Err NoCall
call_answer (word ∷ others) = name_calls word others

-- the text of that
abbrev pub shown_line : List (List ℕ) → List ℕ
shown_line words = answer_text (call_answer words)

-- the text for octets: a row for each of their lines
abbrev pub shown : List ℕ → List ℕ
shown = rows_text shown_line

-- what comes of octets: the text for them alone, and everything is accepted
abbrev pub shown_session : Session (List ℕ)
shown_session = only shown (λ _. Accepted)
