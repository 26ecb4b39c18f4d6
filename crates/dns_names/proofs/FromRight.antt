-- Names compared from the right, their labels met from the left.
use Rattle.std.proofs.Common.{◌≡◌, ℕ, ◌+◌, ◌-◌, ◌<◌, List, [], ◌∷◌, ◌++◌, length, take, drop, reverse, refl, sym, ap}
use Rattle.std.proofs.Common.{◌∙◌, arith, Option, Some, None, MatchOption, Bor}
use Rattle.std.proofs.lemmas.List.{length-reverse, length-take, length-drop, reverse-append, take-append-drop}
use Rattle.std.proofs.lemmas.List.{drop-drop}
use Rattle.std.proofs.lemmas.Bool.Decides.{nat_tests}
use Rattle.std.proofs.lemmas.Grind.{reverse_onto}
use Rattle.std.specs.declared.cmp.Ordering.{Ordering}
use Rattle.std.specs.declared.cmp.Ordering.TheVariants.{Less, Equal, Greater}
use Rattle.std.specs.Ordering.{nat_cmp, ordering_then}
use Rattle.std.specs.Cmp.Lexicographic.{slice_cmp}

abbrev pub labels_cmp : List (List ℕ) → List (List ℕ) → Ordering
labels_cmp = slice_cmp (slice_cmp nat_cmp)

then_assoc : (a b c : Ordering) → ordering_then (ordering_then a b) c ≡ ordering_then a (ordering_then b c)
then_assoc Less b c = refl
then_assoc Equal b c = refl
then_assoc Greater b c = refl

then_Equal : (a : Ordering) → ordering_then a Equal ≡ a
then_Equal Less = refl
then_Equal Equal = refl
then_Equal Greater = refl

-- two lists that begin with lists of one length
pub slice_cmp-append : {A : Type 0} (R : A → A → Ordering) (xs ys ss ts : List A) → length xs ≡ length ys
    → slice_cmp R (xs ++ ss) (ys ++ ts) ≡ ordering_then (slice_cmp R xs ys) (slice_cmp R ss ts)
slice_cmp-append R [] [] ss ts h = refl
slice_cmp-append R [] (y ∷ ys) ss ts h = absurd (omega arith)
slice_cmp-append R (x ∷ xs) [] ss ts h = absurd (omega arith)
slice_cmp-append R (x ∷ xs) (y ∷ ys) ss ts h = ap (ordering_then (R x y)) (slice_cmp-append R xs ys ss ts (omega arith))
    ∙ sym (then_assoc (R x y) (slice_cmp R xs ys) (slice_cmp R ss ts))

-- the outcome of two lists of one length from the right, where `tied` comes behind
abbrev pub outcome : List (List ℕ) → List (List ℕ) → Ordering → Ordering
outcome xs ys tied = ordering_then (labels_cmp (reverse xs) (reverse ys)) tied

-- the leftmost labels are looked at last
pub outcome_step : (x y : List ℕ) (xs ys : List (List ℕ)) (tied : Ordering) → length xs ≡ length ys
    → outcome (x ∷ xs) (y ∷ ys) tied ≡ outcome xs ys (ordering_then (slice_cmp nat_cmp x y) tied)
outcome_step x y xs ys tied h =
    let lists : labels_cmp (reverse (x ∷ xs)) (reverse (y ∷ ys))
    ≡ ordering_then (labels_cmp (reverse xs) (reverse ys)) (labels_cmp (x ∷ []) (y ∷ [])) =
    (λ i. labels_cmp (reverse_onto xs x [] i) (reverse_onto ys y [] i))
    ∙ slice_cmp-append (slice_cmp nat_cmp) (reverse xs) (reverse ys) (x ∷ []) (y ∷ []) (length-reverse xs ∙ h
    ∙ sym (length-reverse ys)) in
    ap (λ o. ordering_then o tied) lists
    ∙ then_assoc (labels_cmp (reverse xs) (reverse ys)) (labels_cmp (x ∷ []) (y ∷ [])) tied
    ∙ ap (λ o. ordering_then (labels_cmp (reverse xs) (reverse ys)) (ordering_then o tied))
    (then_Equal (slice_cmp nat_cmp x y))

-- a call of `next` leaves what is behind the first label
pub next_behind : {A : Type 0} (r : Option (Bor A)) (s t start : List A) (k : ℕ)
    → MatchOption r ((s ≡ []) × (t ≡ [])) (λ x. s ≡ x.now ∷ t) → s ≡ drop k start → t ≡ drop (k + 1) start
next_behind None s t start k h e = h.1 ∙ ap (drop 1) (sym h.0 ∙ e) ∙ drop-drop 1 k start
next_behind (Some x) s t start k h e = ap (drop 1) (sym h ∙ e) ∙ drop-drop 1 k start

-- where the lists that are left at the end have no octet to compare, their lengths decide
shorter_first : (ss ts : List (List ℕ)) (m n : ℕ) → length ss ≡ m - n → length ts ≡ n - m
    → labels_cmp ss ts ≡ nat_cmp m n
shorter_first [] [] m n h g = let e : m ≡ n = omega arith in grind (arith, nat_tests)
shorter_first [] (t ∷ ts) m n h g = let e : m < n = omega arith in grind (arith, nat_tests)
shorter_first (s ∷ ss) [] m n h g = let e : n < m = omega arith in grind (arith, nat_tests)
shorter_first (s ∷ ss) (t ∷ ts) m n h g = absurd (omega arith)

-- a list from the right, the k leftmost labels last
from_right : (k : ℕ) (xs : List (List ℕ)) → reverse xs ≡ reverse (drop k xs) ++ reverse (take k xs)
from_right k xs = ap reverse (sym (take-append-drop k xs)) ∙ reverse-append (take k xs) (drop k xs)

-- the longer list without its leftmost labels is compared first, and then the lengths
pub outcome_whole : (xs ys : List (List ℕ)) (m n : ℕ) → length xs ≡ m → length ys ≡ n
    → outcome (drop (m - n) xs) (drop (n - m) ys) (nat_cmp m n) ≡ labels_cmp (reverse xs) (reverse ys)
outcome_whole xs ys m n h g =
    let xs1 : List (List ℕ) = drop (m - n) xs in
    let ys1 : List (List ℕ) = drop (n - m) ys in
    let long : length (reverse xs1) ≡ length (reverse ys1) = omega
    (arith, length-reverse xs1, length-reverse ys1, length-drop (m - n) xs, length-drop (n - m) ys) in
    let left : length (reverse (take (m - n) xs)) ≡ m - n = omega
    (arith, length-reverse (take (m - n) xs), length-take (m - n) xs) in
    let right : length (reverse (take (n - m) ys)) ≡ n - m = omega
    (arith, length-reverse (take (n - m) ys), length-take (n - m) ys) in
    ap (ordering_then (labels_cmp (reverse xs1) (reverse ys1)))
    (sym (shorter_first (reverse (take (m - n) xs)) (reverse (take (n - m) ys)) m n left right))
    ∙ sym (slice_cmp-append (slice_cmp nat_cmp) (reverse xs1) (reverse ys1) (reverse (take (m - n) xs))
    (reverse (take (n - m) ys)) long)
    ∙ (λ i. labels_cmp (sym (from_right (m - n) xs) i) (sym (from_right (n - m) ys) i))
