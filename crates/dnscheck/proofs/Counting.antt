-- What answers come to, counted one by one.
use Rattle.std.proofs.Common.{◌≡◌, ℕ, ◌+◌, ◌<◌, ◌≤◌, Bool, true, false, cond, List, [], ◌∷◌, ◌++◌, length, map, drop, get_or, Ok, Err, is_ok, refl, sym, ap}
use Rattle.std.proofs.Common.{◌∙◌, add-one, arith, drop-cons}
use Rattle.std.specs.Prelude.{is_err, ◌==◌}
use Rattle.std.proofs.lemmas.List.{drop_all}
use Rattle.std.proofs.lemmas.List.Sums.{sum_by-cons, sum_by-append}
use Rattle.std.specs.List.{count_by, flat_map}
use Rattle.sec_codes.specs.declared.proof.Proof.{Proof}
use Rattle.sec_codes.specs.declared.proof.Proof.TheVariants.{Secure, Bogus, Indeterminate}
use Rattle.sec_codes.specs.Proofs.{proof_number}
use Rattle.sec_check.specs.declared.set_proof.SetProof.{SetProof}
use Rattle.sec_check.specs.Reports.{Answered}
use Rattle.check_script.specs.Taking.{with_answers}
use Rattle.dnscheck.specs.declared.counts.Counts.{Counts}
use Rattle.dnscheck.specs.Counts.{counted, counting, how_many, marks, marks_of, no_counts, with_accepted, with_marks, with_refused}

-- ---- record sets

with_no_marks : (counts : Counts) → with_marks counts [] ≡ counts
with_no_marks counts = λ j. record counts {
  secure = none counts.secure j;
  bogus = none counts.bogus j;
  indeterminate = none counts.indeterminate j;
}
  where
    none : (n : ℕ) → n + 0 ≡ n
    none n = omega arith

one_mark_more : (counts : Counts) (mark : Proof) (others : List Proof)
    → with_marks (with_marks counts (mark ∷ [])) others ≡ with_marks counts (mark ∷ others)
one_mark_more counts mark others = λ j. record counts {
  secure = more Secure counts.secure j;
  bogus = more Bogus counts.bogus j;
  indeterminate = more Indeterminate counts.indeterminate j;
}
  where
    more : (proof : Proof) (n : ℕ) → (n + how_many proof (mark ∷ [])) + how_many proof others
        ≡ n + how_many proof (mark ∷ others)
    more proof n = omega (
      arith,
      sum_by-cons (λ m. cond (proof_number m == proof_number proof) 1 0) mark [],
      sum_by-cons (λ m. cond (proof_number m == proof_number proof) 1 0) mark others,
    )

split : (sets : List SetProof) (i : ℕ) (d set : SetProof) → i < length sets → get_or sets i d ≡ set
    → drop i sets ≡ set ∷ drop (i + 1) sets
split sets i d set lt is =
    let parts : drop i sets ≡ get_or sets i d ∷ drop (i + 1) sets = rw (add-one, drop-cons sets i d) refl in
    parts ∙ ap (λ (s : SetProof). s ∷ drop (i + 1) sets) is

-- the sets from place i on are left
pub record HasMarked (before : Counts) (sets : List SetProof) (counts : Counts) (i : ℕ) : Type 0 where
  pub all : with_marks counts (marks (drop i sets)) ≡ with_marks before (marks sets)

pub marked_none : (before : Counts) (sets : List SetProof) → HasMarked before sets before 0
marked_none before sets = record { all = refl }

pub marked_one : (before : Counts) (sets : List SetProof) (counts more : Counts) (i : ℕ) (d set : SetProof)
    → i < length sets → get_or sets i d ≡ set → more ≡ with_marks counts (set.proof ∷ [])
    → HasMarked before sets counts i → HasMarked before sets more (i + 1)
marked_one before sets counts more i d set lt is put has = record {
  all = ap (λ (c : Counts). with_marks c (marks (drop (i + 1) sets))) put
      ∙ one_mark_more counts set.proof (marks (drop (i + 1) sets))
      ∙ ap (λ (l : List SetProof). with_marks counts (marks l)) (sym (split sets i d set lt is)) ∙ has.all;
}

pub marked_all : (before : Counts) (sets : List SetProof) (counts : Counts) (i : ℕ) → length sets ≤ i
    → HasMarked before sets counts i → counts ≡ with_marks before (marks sets)
marked_all before sets counts i le has =
    sym (with_no_marks counts)
    ∙ ap (λ (l : List SetProof). with_marks counts (marks l)) (sym (drop_all i sets le)) ∙ has.all

-- ---- answers

-- counts, and what these answers come to
abbrev added : Counts → List Answered → Counts
added counts found = record {
  accepted = counts.accepted + count_by is_ok found;
  refused = counts.refused + count_by is_err found;
  secure = counts.secure + how_many Secure (flat_map marks_of found);
  bogus = counts.bogus + how_many Bogus (flat_map marks_of found);
  indeterminate = counts.indeterminate + how_many Indeterminate (flat_map marks_of found);
}

none_more : (n : ℕ) → n ≡ n + 0
none_more n = omega arith

marks_more : (proof : Proof) (n : ℕ) (here others : List Proof)
    → (n + how_many proof here) + how_many proof others ≡ n + how_many proof (here ++ others)
marks_more proof n here others =
    omega (arith, sum_by-append (λ m. cond (proof_number m == proof_number proof) 1 0) here others)

first_passes : (test : Answered → Bool) (here : Answered) (others : List Answered) → test here ≡ true → (n : ℕ)
    → (n + 1) + count_by test others ≡ n + count_by test (here ∷ others)
first_passes test here others passes n =
    omega (arith, sum_by-cons (λ a. cond (test a) 1 0) here others, ap {B = ℕ} (λ (b : Bool). cond b 1 0) passes)

first_fails : (test : Answered → Bool) (here : Answered) (others : List Answered) → test here ≡ false → (n : ℕ)
    → n + count_by test others ≡ n + count_by test (here ∷ others)
first_fails test here others fails n =
    omega (arith, sum_by-cons (λ a. cond (test a) 1 0) here others, ap {B = ℕ} (λ (b : Bool). cond b 1 0) fails)

all_added : (counts : Counts) (number : ℕ) (found : List Answered)
    → with_answers counting counts number found ≡ added counts found
unfolding with_answers
all_added counts number [] = λ j. record {
  accepted = none_more counts.accepted j;
  refused = none_more counts.refused j;
  secure = none_more counts.secure j;
  bogus = none_more counts.bogus j;
  indeterminate = none_more counts.indeterminate j;
}
all_added counts number (Ok answer ∷ found) =
    all_added (with_accepted counts answer.report.sets) (number + 1) found ∙ one
  where
    others : List Proof
    others = flat_map marks_of found

    one : added (with_accepted counts answer.report.sets) found ≡ added counts (Ok answer ∷ found)
    one = λ j. record {
      accepted = first_passes is_ok (Ok answer) found refl counts.accepted j;
      refused = first_fails is_err (Ok answer) found refl counts.refused j;
      secure = marks_more Secure counts.secure (marks answer.report.sets) others j;
      bogus = marks_more Bogus counts.bogus (marks answer.report.sets) others j;
      indeterminate = marks_more Indeterminate counts.indeterminate (marks answer.report.sets) others j;
    }
all_added counts number (Err cause ∷ found) =
    all_added (with_refused counts) (number + 1) found ∙ (λ j. record {
      accepted = first_fails is_ok (Err cause) found refl counts.accepted j;
      refused = first_passes is_err (Err cause) found refl counts.refused j;
      secure = counts.secure + how_many Secure (flat_map marks_of found);
      bogus = counts.bogus + how_many Bogus (flat_map marks_of found);
      indeterminate = counts.indeterminate + how_many Indeterminate (flat_map marks_of found);
    })

from_none : (n : ℕ) → 0 + n ≡ n
from_none n = omega arith

-- the answers of a script, counted one by one
pub all_counted : (found : List Answered) → with_answers counting no_counts 1 found ≡ counted found
unfolding counted
all_counted found = all_added no_counts 1 found ∙ (λ j. record {
  accepted = from_none (count_by is_ok found) j;
  refused = from_none (count_by is_err found) j;
  secure = from_none (how_many Secure (flat_map marks_of found)) j;
  bogus = from_none (how_many Bogus (flat_map marks_of found)) j;
  indeterminate = from_none (how_many Indeterminate (flat_map marks_of found)) j;
})
