-- Lists that are gone through.
use Rattle.std.proofs.Common.{◌≡◌, ℕ, ◌+◌, ◌<◌, List, [], ◌∷◌, ◌++◌, length, take, drop, get_or}
use Rattle.std.proofs.Common.{refl, sym, ap, ◌∙◌, append_assoc, add-one, drop-cons}
use Rattle.std.specs.List.{after_first, before_first, flat_map}
use Rattle.std.proofs.lemmas.Grind.{flat_map-append}
use Rattle.std.proofs.lemmas.List.{append-nil, take_more}
use Rattle.dns_text.specs.Words.{is_line_feed, lines}
use Rattle.dns_text.proofs.Cuts.{lines-cut}

-- ---- lines

pub lines_one : (text rest line after : List ℕ) (found new : List (List ℕ)) → 0 < length rest
    → line ≡ before_first is_line_feed rest → after ≡ after_first is_line_feed rest → new ≡ found ++ line ∷ []
    → found ++ lines rest ≡ lines text → new ++ lines after ≡ lines text
lines_one text rest line after found new some cut behind is left =
    (λ i. is i ++ lines (behind i))
    ∙ append_assoc found (line ∷ []) (lines (after_first is_line_feed rest))
    ∙ ap (λ (l : List ℕ). found ++ l ∷ lines (after_first is_line_feed rest)) cut
    ∙ ap (λ (ls : List (List ℕ)). found ++ ls) (sym (lines-cut rest some)) ∙ left

-- ---- elements

pub split : {A : Type 0} (xs : List A) (i : ℕ) (d x : A) → i < length xs → get_or xs i d ≡ x
    → drop i xs ≡ x ∷ drop (i + 1) xs
split {A = A} xs i d x lt is =
    let parts : drop i xs ≡ get_or xs i d ∷ drop (i + 1) xs = rw (add-one, drop-cons xs i d) refl in
    parts ∙ ap (λ (x : A). x ∷ drop (i + 1) xs) is

-- one element more, of those that are made of the elements of a list
pub gathered_more : {A B : Type 0} (f : A → List B) (xs : List A) (i : ℕ) (d x : A) (so_far new : List B)
    → i < length xs → get_or xs i d ≡ x → new ≡ so_far ++ f x → so_far ≡ flat_map f (take i xs)
    → new ≡ flat_map f (take (i + 1) xs)
gathered_more {A = A} f xs i d x so_far new lt here is has =
    is ∙ ap (λ ys. ys ++ f x) has
    ∙ ap (λ ys. flat_map f (take i xs) ++ ys) (sym (append-nil (f x)))
    ∙ sym (flat_map-append f (take i xs) (x ∷ []))
    ∙ ap (λ (y : A). flat_map f (take i xs ++ y ∷ [])) (sym here)
    ∙ ap (flat_map f) (sym (take_more xs i d lt))
