-- The answers of a script, taken in one by one.
use Rattle.std.proofs.Common.{◌≡◌, ℕ, ◌+◌, ◌<◌, ◌≤◌, Bool, true, false, ◌&&◌, List, [], ◌∷◌, length, drop, get_or}
use Rattle.std.proofs.Common.{is_ok, refl, sym, ap, ◌∙◌, add-one, drop-cons}
use Rattle.std.proofs.lemmas.List.{drop_all}
use Rattle.std.specs.List.{list_all}
use Rattle.sec_anchor.specs.Entries.{EntryData}
use Rattle.sec_sign.specs.Verifying.{Relation}
use Rattle.sec_tsig.specs.Verdict.{TsigChain}
use Rattle.sec_check.specs.Reports.{Answered, CheckerData}
use Rattle.check_script.specs.Script.{Answer}
use Rattle.check_script.specs.Answers.{answer_found, answers_found, next_chain}
use Rattle.check_script.specs.Taking.{Taking, with_answer, with_answers}

both : (a b c : Bool) → ((a && b) && c) ≡ (a && (b && c))
both true b c = refl
both false b c = refl

and_true : (b : Bool) → (b && true) ≡ b
and_true true = refl
and_true false = refl

split : (answers : List Answer) (i : ℕ) (d answer : Answer) → i < length answers → get_or answers i d ≡ answer
    → drop i answers ≡ answer ∷ drop (i + 1) answers
split answers i d answer lt is =
    let parts : drop i answers ≡ get_or answers i d ∷ drop (i + 1) answers = rw (add-one, drop-cons answers i d) refl in
    parts ∙ ap (λ (a : Answer). a ∷ drop (i + 1) answers) is

module _ (accepts : Relation) (entries : List EntryData) where
  abbrev all_found : TsigChain → List Answer → List Answered
  all_found = answers_found accepts entries

  one_found : (answer : Answer) (others : List Answer) (chain : TsigChain) → all_found chain (answer ∷ others)
      ≡ answer_found accepts entries chain answer
      ∷ all_found (next_chain chain (answer_found accepts entries chain answer)) others
  unfolding answers_found
  one_found answer others chain = refl

  none_found : (chain : TsigChain) → all_found chain [] ≡ []
  unfolding answers_found
  none_found chain = refl

module _ {Taker : Type 0} (taking : Taking Taker) where
  one_taken : (taker : Taker) (number : ℕ) (found : Answered) (others : List Answered)
      → with_answers taking taker number (found ∷ others)
      ≡ with_answers taking (with_answer taking taker number found) (number + 1) others
  unfolding with_answers
  one_taken taker number found others = refl

  none_taken : (taker : Taker) (number : ℕ) → with_answers taking taker number [] ≡ taker
  unfolding with_answers
  none_taken taker number = refl

-- The first i answers were taken in, and accepted or not; the others are left, and the entries stay.
pub record HasTaken {Taker : Type 0} (taking : Taking Taker) (accepts : Relation) (answers : List Answer)
    (before : Taker) (first : CheckerData) (i : ℕ) (taker : Taker) (checker : CheckerData) (accepted : Bool) : Type 0 where
  pub entries : checker.entries ≡ first.entries
  pub taken : with_answers taking taker (i + 1) (answers_found accepts first.entries checker.chain (drop i answers))
      ≡ with_answers taking before 1 (answers_found accepts first.entries first.chain answers)
  pub all : (accepted && list_all is_ok (answers_found accepts first.entries checker.chain (drop i answers)))
      ≡ list_all is_ok (answers_found accepts first.entries first.chain answers)

module _ {Taker : Type 0} (taking : Taking Taker) (accepts : Relation) (answers : List Answer) (before : Taker)
    (first : CheckerData) where
  pub taken_none : HasTaken taking accepts answers before first 0 before first true
  taken_none = record { entries = refl; taken = refl; all = refl }

  pub taken_one : (i : ℕ) (taker taker2 : Taker) (checker checker2 : CheckerData) (accepted ok : Bool) (number : ℕ)
      (d answer : Answer) → i < length answers → get_or answers i d ≡ answer
      → HasTaken taking accepts answers before first i taker checker accepted → number ≡ i + 1
      → taker2 ≡ with_answer taking taker number (answer_found accepts checker.entries checker.chain answer)
      → ok ≡ is_ok (answer_found accepts checker.entries checker.chain answer)
      → checker2.chain ≡ next_chain checker.chain (answer_found accepts checker.entries checker.chain answer)
      → checker2.entries ≡ checker.entries
      → HasTaken taking accepts answers before first (i + 1) taker2 checker2 (accepted && ok)
  taken_one i taker taker2 checker checker2 accepted ok number d answer lt is has at put fine moved stay =
      let entries = first.entries in
      let chain = checker.chain in
      let rest = drop (i + 1) answers in
      let here = answer_found accepts entries chain answer in
      let next = next_chain chain here in
      let others = answers_found accepts entries next rest in
      let here_is : answer_found accepts checker.entries chain answer ≡ here =
      ap (λ (e : List EntryData). answer_found accepts e chain answer) has.entries in
      let left : answers_found accepts entries chain (drop i answers) ≡ here ∷ others =
      ap (answers_found accepts entries chain) (split answers i d answer lt is)
      ∙ one_found accepts entries answer rest chain in
      let put2 : taker2 ≡ with_answer taking taker (i + 1) here = put
      ∙ (λ j. with_answer taking taker (at j) (here_is j)) in
      let moved2 : checker2.chain ≡ next = moved ∙ ap (next_chain chain) here_is in
      let fine2 : ok ≡ is_ok here = fine ∙ ap (λ (found : Answered). is_ok found) here_is in
      record {
        entries = stay ∙ has.entries;
        taken = (λ j. with_answers taking (put2 j) (i + 1 + 1) (answers_found accepts entries (moved2 j) rest))
            ∙ sym (one_taken taking taker (i + 1) here others)
            ∙ ap (with_answers taking taker (i + 1)) (sym left) ∙ has.taken;
        all = (λ j. (accepted && fine2 j) && list_all is_ok (answers_found accepts entries (moved2 j) rest))
            ∙ both accepted (is_ok here) (list_all is_ok others)
            ∙ ap (λ (l : List Answered). accepted && list_all is_ok l) (sym left) ∙ has.all;
      }

  pub taken_all : (i : ℕ) (taker : Taker) (checker : CheckerData) (accepted : Bool) → length answers ≤ i
      → HasTaken taking accepts answers before first i taker checker accepted
      → (taker ≡ with_answers taking before 1 (answers_found accepts first.entries first.chain answers))
      × (accepted ≡ list_all is_ok (answers_found accepts first.entries first.chain answers))
  taken_all i taker checker accepted le has =
      let entries = first.entries in
      let none : answers_found accepts entries checker.chain (drop i answers) ≡ [] =
      ap (answers_found accepts entries checker.chain) (drop_all i answers le) ∙ none_found accepts entries checker.chain in (
        sym (none_taken taking taker (i + 1)) ∙ ap (with_answers taking taker (i + 1)) (sym none) ∙ has.taken,
        sym (and_true accepted) ∙ ap (λ (l : List Answered). accepted && list_all is_ok l) (sym none) ∙ has.all,
      )
