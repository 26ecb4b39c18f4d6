-- Where lines and words are cut.
use Rattle.std.proofs.Common.{◌≡◌, ℕ, suc, ◌+◌, ◌<◌, ◌≤◌, Bool, true, false, ltb, not, List, [], ◌∷◌, length, take}
use Rattle.std.proofs.Common.{drop, Some, None, refl, sym, ap, subst, ◌∙◌, arith, inl, inr}
use Rattle.std.specs.Prelude.{filter, position}
use Rattle.std.specs.List.{position_or_len, before_first, after_first, onto_first, slice_split}
use Rattle.std.proofs.lemmas.Bool.{cases_Bool, lt-ltb}
use Rattle.std.proofs.lemmas.Bool.Decides.{nat_tests}
use Rattle.std.proofs.lemmas.List.{nil_from_length}
use Rattle.std.proofs.lemmas.List.Splits.{slice_split-cons_yes, slice_split-cons_no}
use Rattle.dns_text.specs.Words.{is_line_feed, is_blank, lines, words, from_word}

module _ (p : ℕ → Bool) (c : ℕ) (cs : List ℕ) where
  pub cut_yes : p c ≡ true → position_or_len p (c ∷ cs) ≡ 0
  cut_yes e = rw e refl

  pub cut_no : p c ≡ false → position_or_len p (c ∷ cs) ≡ suc (position_or_len p cs)
  cut_no e = rw e (omega arith)

  pub before_yes : p c ≡ true → before_first p (c ∷ cs) ≡ []
  before_yes e = ap (λ k. take k (c ∷ cs)) (cut_yes e)

  pub before_no : p c ≡ false → before_first p (c ∷ cs) ≡ c ∷ before_first p cs
  before_no e = ap (λ k. take k (c ∷ cs)) (cut_no e)

  pub after_yes : p c ≡ true → after_first p (c ∷ cs) ≡ cs
  after_yes e = ap (λ k. drop (k + 1) (c ∷ cs)) (cut_yes e)

  pub after_no : p c ≡ false → after_first p (c ∷ cs) ≡ after_first p cs
  after_no e = ap (λ k. drop (k + 1) (c ∷ cs)) (cut_no e) ∙ ap (λ k. drop k (c ∷ cs)) step
    where
      step : suc (position_or_len p cs) + 1 ≡ suc (position_or_len p cs + 1)
      step = omega arith

-- the first place that passes, as a search answers it
module _ (p : ℕ → Bool) (xs : List ℕ) where
  pub place_some : (n : ℕ) → Some n ≡ position p xs → n ≡ position_or_len p xs
  place_some n e = elim (cases_Bool (ltb (position_or_len p xs) (length xs))) [
    | inl t ↦ let at : position p xs ≡ Some (position_or_len p xs) = rw t refl in cc
    | inr f ↦ absurd (let none : position p xs ≡ None = rw f refl in cc)
  ]

  pub place_none : None ≡ position p xs → length xs ≤ position_or_len p xs
  place_none e = elim (cases_Bool (ltb (position_or_len p xs) (length xs))) [
    | inl t ↦ absurd (let at : position p xs ≡ Some (position_or_len p xs) = rw t refl in cc)
    | inr f ↦ grind (arith, nat_tests)
  ]

lines_yes : (c : ℕ) (cs : List ℕ) → is_line_feed c ≡ true → lines (c ∷ cs) ≡ [] ∷ lines cs
lines_yes c cs e = rw e refl

lines_no : (c : ℕ) (cs : List ℕ) → is_line_feed c ≡ false → lines (c ∷ cs) ≡ onto_first c (lines cs)
lines_no c cs e = rw e refl

-- the first line, and the others
pub lines-cut : (xs : List ℕ) → 0 < length xs
    → lines xs ≡ before_first is_line_feed xs ∷ lines (after_first is_line_feed xs)
lines-cut [] some = absurd (omega arith)
lines-cut (c ∷ []) some =
    elim (cases_Bool (is_line_feed c)) [
      | inl e ↦ lines_yes c [] e ∙ sym (ap (λ (l : List ℕ). l ∷ lines (after_first is_line_feed (c ∷ [])))
          (before_yes is_line_feed c [] e) ∙ ap (λ (l : List ℕ). [] ∷ lines l) (after_yes is_line_feed c [] e))
      | inr e ↦ lines_no c [] e ∙ sym (ap (λ (l : List ℕ). l ∷ lines (after_first is_line_feed (c ∷ [])))
          (before_no is_line_feed c [] e) ∙ ap (λ (l : List ℕ). (c ∷ []) ∷ lines l) (after_no is_line_feed c [] e))
    ]
lines-cut (c ∷ d ∷ cs) some =
    elim (cases_Bool (is_line_feed c)) [
      | inl e ↦ lines_yes c (d ∷ cs) e ∙ sym (ap (λ (l : List ℕ). l ∷ lines (after_first is_line_feed (c ∷ d ∷ cs)))
          (before_yes is_line_feed c (d ∷ cs) e) ∙ ap (λ (l : List ℕ). [] ∷ lines l)
          (after_yes is_line_feed c (d ∷ cs) e))
      | inr e ↦ lines_no c (d ∷ cs) e ∙ ap (onto_first c) (lines-cut (d ∷ cs) (omega arith))
          ∙ sym (ap (λ (l : List ℕ). l ∷ lines (after_first is_line_feed (c ∷ d ∷ cs)))
          (before_no is_line_feed c (d ∷ cs) e) ∙ ap
          (λ (l : List ℕ). (c ∷ before_first is_line_feed (d ∷ cs)) ∷ lines l) (after_no is_line_feed c (d ∷ cs) e))
    ]

-- the first line that a call cut off, and the others
pub first_line : (octets line rest : List ℕ) → 0 < length octets → line ≡ before_first is_line_feed octets
    → rest ≡ after_first is_line_feed octets → lines octets ≡ line ∷ lines rest
first_line octets line rest some before after =
    lines-cut octets some ∙ ap (λ (l : List ℕ). l ∷ lines (after_first is_line_feed octets)) (sym before)
    ∙ ap (λ (l : List ℕ). line ∷ lines l) (sym after)

from_word_yes : (c : ℕ) (cs : List ℕ) → is_blank c ≡ true → from_word (c ∷ cs) ≡ from_word cs
from_word_yes c cs e = ap (λ k. drop k (c ∷ cs)) (cut_no (λ c. not (is_blank c)) c cs (ap not e))

from_word_no : (c : ℕ) (cs : List ℕ) → is_blank c ≡ false → from_word (c ∷ cs) ≡ c ∷ cs
from_word_no c cs e = ap (λ k. drop k (c ∷ cs)) (cut_yes (λ c. not (is_blank c)) c cs (ap not e))

words_yes : (c : ℕ) (cs : List ℕ) → is_blank c ≡ true → words (c ∷ cs) ≡ words cs
words_yes c cs e = ap (filter (λ word. ltb 0 (length word))) (slice_split-cons_yes is_blank c cs e)

pub words-from_word : (xs : List ℕ) → words xs ≡ words (from_word xs)
words-from_word [] = refl
words-from_word (c ∷ cs) =
    elim (cases_Bool (is_blank c)) [
      | inl e ↦ words_yes c cs e ∙ words-from_word cs ∙ ap words (sym (from_word_yes c cs e))
      | inr e ↦ ap words (sym (from_word_no c cs e))
    ]

-- a line without the blanks before its first word begins with a word
pub word-from_word : (xs : List ℕ) → 0 < length (from_word xs) → 0 < length (before_first is_blank (from_word xs))
word-from_word [] some = absurd (omega arith)
word-from_word (c ∷ cs) some =
    elim (cases_Bool (is_blank c)) [
      | inl e ↦ subst (λ (l : List ℕ). 0 < length (before_first is_blank l)) (sym (from_word_yes c cs e))
          (word-from_word cs (subst (λ (l : List ℕ). 0 < length l) (from_word_yes c cs e) some))
      | inr e ↦ subst (λ (l : List ℕ). 0 < length (before_first is_blank l)) (sym (from_word_no c cs e))
          (omega (arith, ap length (before_no is_blank c cs e)))
    ]

record Parts (xs : List ℕ) : Type 0 where
  others : List (List ℕ)
  split : slice_split is_blank xs ≡ before_first is_blank xs ∷ others
  rest : filter (λ word. ltb 0 (length word)) others ≡ words (after_first is_blank xs)

parts : (xs : List ℕ) → Parts xs
parts [] = record { others = []; split = refl; rest = refl }
parts (c ∷ cs) =
    elim (cases_Bool (is_blank c)) [
      | inl e ↦ record {
        others = slice_split is_blank cs;
        split = slice_split-cons_yes is_blank c cs e
            ∙ ap (λ (l : List ℕ). l ∷ slice_split is_blank cs) (sym (before_yes is_blank c cs e));
        rest = ap words (sym (after_yes is_blank c cs e));
      }
      | inr e ↦ let later = parts cs in record {
        others = later.others;
        split = slice_split-cons_no is_blank c cs e ∙ ap (onto_first c) later.split
            ∙ ap (λ (l : List ℕ). l ∷ later.others) (sym (before_no is_blank c cs e));
        rest = later.rest ∙ ap words (sym (after_no is_blank c cs e));
      }
    ]

kept : (word : List ℕ) (others : List (List ℕ)) → 0 < length word
    → filter (λ w. ltb 0 (length w)) (word ∷ others) ≡ word ∷ filter (λ w. ltb 0 (length w)) others
kept word others some = rw (lt-ltb 0 (length word) some) refl

-- the word at the front, and the others
pub words-cut : (xs : List ℕ) → 0 < length (before_first is_blank xs)
    → words xs ≡ before_first is_blank xs ∷ words (after_first is_blank xs)
words-cut xs some =
    let p = parts xs in
    ap (filter (λ word. ltb 0 (length word))) p.split ∙ kept (before_first is_blank xs) p.others some
    ∙ ap (λ (l : List (List ℕ)). before_first is_blank xs ∷ l) p.rest

pub no_words : (line rest : List ℕ) → rest ≡ from_word line → length rest ≡ 0 → words line ≡ []
no_words line rest is none = words-from_word line ∙ ap words (sym is ∙ nil_from_length rest none)

-- the first word that a call cut off, and the others
pub first_word : (line rest word after : List ℕ) → rest ≡ from_word line → 0 < length rest
    → word ≡ before_first is_blank rest → after ≡ after_first is_blank rest → words line ≡ word ∷ words after
first_word line rest word after is some before behind =
    let some_word = subst (λ (l : List ℕ). 0 < length l) is some in
    let cut = words-cut rest (subst (λ (l : List ℕ). 0 < length (before_first is_blank l)) (sym is)
    (word-from_word line some_word)) in
    words-from_word line ∙ ap words (sym is) ∙ cut
    ∙ ap (λ (l : List ℕ). l ∷ words (after_first is_blank rest)) (sym before)
    ∙ ap (λ (l : List ℕ). word ∷ words l) (sym behind)
