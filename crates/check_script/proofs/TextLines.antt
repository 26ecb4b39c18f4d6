-- The lines of the answers, appended one by one.
use Rattle.std.proofs.Common.{◌≡◌, ℕ, ◌+◌, List, [], ◌∷◌, ◌++◌, Ok, Err, refl, sym, ap, ◌∙◌, append_assoc}
use Rattle.std.proofs.lemmas.List.{append-nil}
use Rattle.sec_sign.specs.Verifying.{Relation}
use Rattle.sec_check.specs.Reports.{Answered}
use Rattle.check_script.specs.Script.{Script}
use Rattle.check_script.specs.Answers.{found}
use Rattle.check_script.specs.Taking.{with_answer, with_answers}
use Rattle.check_script.specs.Session.{answer_text, answers_text, appending, script_text}
use Rattle.check_script.specs.Text.{request_text}

one : (text : List ℕ) (number : ℕ) (answer : Answered)
    → with_answer appending text number answer ≡ text ++ answer_text number answer
one text number (Ok accepted) = refl
one text number (Err cause) = refl

all : (text : List ℕ) (number : ℕ) (answers : List Answered)
    → with_answers appending text number answers ≡ text ++ answers_text number answers
unfolding with_answers answers_text
all text number [] = sym (append-nil text)
all text number (answer ∷ others) =
    ap (λ (t : List ℕ). with_answers appending t (number + 1) others) (one text number answer)
    ∙ all (text ++ answer_text number answer) (number + 1) others
    ∙ append_assoc text (answer_text number answer) (answers_text (number + 1) others)

-- The lines of a script's answers after that of its request are its text.
pub text_appended : (accepts : Relation) (script : Script) (before text lines : List ℕ) → before ≡ []
    → text ≡ before ++ request_text script.request.octets
    → lines ≡ with_answers appending text 1 (found accepts script) → lines ≡ script_text accepts script
text_appended accepts script before text lines none pushed taken =
    taken ∙ all text 1 (found accepts script)
    ∙ ap (λ (t : List ℕ). t ++ answers_text 1 (found accepts script))
    (pushed ∙ ap (λ (t : List ℕ). t ++ request_text script.request.octets) none)
