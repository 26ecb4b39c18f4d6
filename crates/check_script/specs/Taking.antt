-- What takes in, one after the other, what the answers of a script come to.
use Rattle.std.specs.Prelude.{ℕ, ◌+◌, List, [], ◌∷◌, Ok, Err}
use Rattle.sec_check.specs.Reports.{Answered, ReportData}
use Rattle.sec_tsig.specs.declared.verify_error.VerifyError.{VerifyError}

-- what a taker is after an answer of this number that is accepted, and after one that is refused
pub record Taking (Taker : Type 0) : Type 0 where
  pub accepted : Taker → ℕ → ReportData → Taker
  pub refused : Taker → ℕ → VerifyError → Taker

abbrev pub with_answer : {Taker : Type 0} → Taking Taker → Taker → ℕ → Answered → Taker
with_answer taking taker number (Ok accepted) = taking.accepted taker number accepted.report
with_answer taking taker number (Err cause) = taking.refused taker number cause

-- after these answers, which are numbered from a number on
unfoldable pub with_answers : {Taker : Type 0} → Taking Taker → Taker → ℕ → List Answered → Taker
with_answers taking taker number [] = taker
with_answers taking taker number (found ∷ others) =
    with_answers taking (with_answer taking taker number found) (number + 1) others
