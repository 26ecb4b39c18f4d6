-- One more element, and what the list of firsts becomes.
use Rattle.std.proofs.Common.{◌≡◌, refl, sym, ap, ◌∙◌, Bool, true, false, cond, not, ◌||◌, List, [], ◌∷◌, ◌++◌}
use Rattle.std.proofs.Common.{append-nil}
use Rattle.std.specs.List.{AllByRecursion, IsDistinct, filter, list_any}
use Rattle.std.proofs.lemmas.Map.Keys.{IsDistinct-cons, IsDistinct-head, IsDistinct-tail}
use Rattle.std.specs.Cmp.{IsEquivalence}
use Rattle.std.proofs.lemmas.List.Elements.{filter-append}
use Rattle.std.proofs.lemmas.Map.Views.{any-filter_same}
use Rattle.sec_check.specs.RecordSets.{firsts, with_new}

module _ {X : Type 0} {alike : X → X → Bool} (laws : IsEquivalence alike) where
  -- what is of y's kind is of x's kind as y is
  same_side : (x y z : X) → alike y z ≡ true → not (alike x z) ≡ not (alike x y)
  same_side x y z h = ap not (laws.symm x z ∙ sym (laws.congr y z x h) ∙ laws.symm y x)

  -- the same behind the head x, by whether y is of its kind, and whether the rest has that kind
  behind : (x y : X) (fs : List X) (of_x known : Bool) → alike x y ≡ of_x → list_any (alike y) fs ≡ known
      → x ∷ filter (λ z. not (alike x z)) (cond known fs (fs ++ y ∷ []))
      ≡ cond (alike y x || list_any (alike y) (filter (λ z. not (alike x z)) fs)) (x ∷ filter (λ z. not (alike x z)) fs)
      ((x ∷ filter (λ z. not (alike x z)) fs) ++ y ∷ [])
  behind x y fs true true h k = rw (laws.symm y x ∙ h) refl
  behind x y fs true false h k =
      let p : X → Bool = λ z. not (alike x z) in
      let out : filter p (fs ++ y ∷ []) ≡ filter p fs = filter-append p fs (y ∷ []) ∙ rw h (append-nil (filter p fs)) in
      rw (laws.symm y x ∙ h, out) refl
  behind x y fs false true h k =
      let p : X → Bool = λ z. not (alike x z) in
      let any : list_any (alike y) (filter p fs) ≡ true = any-filter_same (alike y) p true (λ z e. same_side x y z e
      ∙ ap not h) fs ∙ k in
      rw (laws.symm y x ∙ h, any) refl
  behind x y fs false false h k =
      let p : X → Bool = λ z. not (alike x z) in
      let any : list_any (alike y) (filter p fs) ≡ false = any-filter_same (alike y) p true (λ z e. same_side x y z e
      ∙ ap not h) fs ∙ k in
      let at_end : filter p (fs ++ y ∷ []) ≡ filter p fs ++ y ∷ [] = filter-append p fs (y ∷ []) ∙ rw h refl in
      rw (laws.symm y x ∙ h, any) (ap (λ zs. x ∷ zs) at_end)

  pub firsts-push : (xs : List X) (y : X) → firsts alike (xs ++ y ∷ []) ≡ with_new alike (firsts alike xs) y
  firsts-push [] y = refl
  firsts-push (x ∷ xs) y = ap (λ fs. x ∷ filter (λ z. not (alike x z)) fs) (firsts-push xs y)
      ∙ behind x y (firsts alike xs) (alike x y) (list_any (alike y) (firsts alike xs)) refl refl

  -- the kinds of the firsts are those of all
  pub firsts-any : (q : X) (xs : List X) → list_any (alike q) (firsts alike xs) ≡ list_any (alike q) xs
  firsts-any q [] = refl
  firsts-any q (x ∷ xs) = at (alike q x) refl (firsts-any q xs)
    where
      at : (b : Bool) → alike q x ≡ b → list_any (alike q) (firsts alike xs) ≡ list_any (alike q) xs
          → (alike q x || list_any (alike q) (filter (λ z. not (alike x z)) (firsts alike xs)))
          ≡ (alike q x || list_any (alike q) xs)
      at true h later = rw h refl
      at false h later = rw h (any-filter_same (alike q) (λ z. not (alike x z)) true (λ z e. same_side x q z e
          ∙ ap not (laws.symm x q ∙ h)) (firsts alike xs) ∙ later)

  apart_filter : (p : X → Bool) (y : X) (xs : List X) → AllByRecursion (λ z. alike y z ≡ false) xs
      → AllByRecursion (λ z. alike y z ≡ false) (filter p xs)
  apart_filter p y [] all = tt
  apart_filter p y (x ∷ xs) all = at (p x) refl (apart_filter p y xs all.1)
    where
      at : (b : Bool) → p x ≡ b → AllByRecursion (λ z. alike y z ≡ false) (filter p xs)
          → AllByRecursion (λ z. alike y z ≡ false) (filter p (x ∷ xs))
      at true h later = rw h (all.0, later)
      at false h later = rw h later

  distinct_filter : (p : X → Bool) (xs : List X) → IsDistinct alike xs → IsDistinct alike (filter p xs)
  distinct_filter p [] d = d
  distinct_filter p (x ∷ xs) d = at (p x) refl (distinct_filter p xs (IsDistinct-tail alike x xs d))
    where
      at : (b : Bool) → p x ≡ b → IsDistinct alike (filter p xs) → IsDistinct alike (filter p (x ∷ xs))
      at true h later = rw h (IsDistinct-cons alike x (filter p xs)
          (apart_filter p x xs (IsDistinct-head alike x xs d)) later)
      at false h later = rw h later

  others_apart : (x : X) (xs : List X) → AllByRecursion (λ z. alike x z ≡ false) (filter (λ z. not (alike x z)) xs)
  others_apart x [] = tt
  others_apart x (y ∷ ys) = at (alike x y) refl (others_apart x ys)
    where
      at : (b : Bool) → alike x y ≡ b → AllByRecursion (λ z. alike x z ≡ false) (filter (λ z. not (alike x z)) ys)
          → AllByRecursion (λ z. alike x z ≡ false) (filter (λ z. not (alike x z)) (y ∷ ys))
      at true h later = rw h later
      at false h later = rw h (h, later)

  pub firsts-distinct : (xs : List X) → IsDistinct alike (firsts alike xs)
  unfolding IsDistinct
  firsts-distinct [] = tt
  firsts-distinct (x ∷ xs) = IsDistinct-cons alike x (filter (λ z. not (alike x z)) (firsts alike xs))
      (others_apart x (firsts alike xs)) (distinct_filter (λ z. not (alike x z)) (firsts alike xs) (firsts-distinct xs))
