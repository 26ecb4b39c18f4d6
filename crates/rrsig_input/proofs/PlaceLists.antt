-- A place put among places whose data ascend.
use Rattle.std.proofs.Common.{◌≡◌, ℕ, ◌+◌, ◌-◌, ◌<◌, ◌≤◌, zero, suc, add-one, refl, sym, ap, ◌∙◌, subst, List, [], ◌∷◌, ◌++◌, length, map, take, drop, get_or, set, arith}
use Rattle.std.specs.BTreeSet.{insert_key}
use Rattle.std.specs.List.{All, AllByRecursion, insert}
use Rattle.std.specs.Ordering.{ordering_reverse}
use Rattle.std.specs.declared.cmp.Ordering.TheVariants.{Less, Equal, Greater}
use Rattle.std.proofs.lemmas.Cmp.{nat_list_cmp_total}
use Rattle.std.proofs.lemmas.List.{get_or-map, length-map, length-drop, length-take-le, drop_all, drop-map, take-map, map-append, take_more, take-take, drop-take, set_at, append_assoc}
use Rattle.std.proofs.lemmas.List.Elements.{All-cons, All-append, All-take, All-drop, All-from_recursion}
use Rattle.std.proofs.lemmas.List.Sums.{fold-append}
use Rattle.std.proofs.Math.Seq.{take-set-lt}
use Rattle.std.proofs.lemmas.List.Edits.{take-paste}
use Rattle.std.proofs.lemmas.Map.Keys.{sorted_head, sorted_tail}
use Rattle.std.proofs.lemmas.Map.Lookups.{exact_bytes}
use lib.Seq.{paste}
use Rattle.sec_sign.specs.Ascending.{octets_cmp, ascending, Ascend}
use Rattle.sec_sign.proofs.AscendingLaws.{ascends, ascending_one}

-- ---- where a string belongs

less_from_greater : (x y : List ℕ) → octets_cmp x y ≡ Greater → octets_cmp y x ≡ Less
less_from_greater x y e = nat_list_cmp_total.antisymm y x ∙ ap ordering_reverse e

greater_from_less : (x y : List ℕ) → octets_cmp x y ≡ Less → octets_cmp y x ≡ Greater
greater_from_less x y e = nat_list_cmp_total.antisymm y x ∙ ap ordering_reverse e

-- the first of ascending strings comes before each later one
first_less : (x : List ℕ) (xs : List (List ℕ)) (i : ℕ) → Ascend (x ∷ xs) → i < length xs
    → octets_cmp x (get_or xs i []) ≡ Less
first_less x xs i up in' =
    All-from_recursion (λ y. octets_cmp x y ≡ Less) xs (sorted_head octets_cmp x xs up) i [] in'

abbrev AllLess : List (List ℕ) → List ℕ → Type 0
AllLess xs x = AllByRecursion (λ y. octets_cmp y x ≡ Less) xs

abbrev AllGreater : List (List ℕ) → List ℕ → Type 0
AllGreater xs x = AllByRecursion (λ y. octets_cmp y x ≡ Greater) xs

-- what comes before x in ascending order: all up to one that does
less_up_to : (xs : List (List ℕ)) (i : ℕ) (x : List ℕ) → Ascend xs → i < length xs → octets_cmp (get_or xs i []) x ≡ Less
    → AllLess (take (suc i) xs) x
less_up_to [] i x up in' less = tt
less_up_to (y ∷ ys) zero x up in' less = (less, tt)
less_up_to (y ∷ ys) (suc i) x up in' less = (
  nat_list_cmp_total.trans y (get_or ys i []) x (first_less y ys i up (omega arith)) less,
  less_up_to ys i x (sorted_tail octets_cmp y ys up) (omega arith) less,
)

all_greater : (xs : List (List ℕ)) (y x : List ℕ) → octets_cmp y x ≡ Greater → AllByRecursion (λ z. octets_cmp y z ≡ Less) xs
    → AllGreater xs x
all_greater [] y x greater all = tt
all_greater (z ∷ zs) y x greater all = (
  greater_from_less x z (nat_list_cmp_total.trans x y z (less_from_greater y x greater) all.0),
  all_greater zs y x greater all.1,
)

-- what comes behind it: all from one on that does
greater_from : (xs : List (List ℕ)) (i : ℕ) (x : List ℕ) → Ascend xs → i < length xs
    → octets_cmp (get_or xs i []) x ≡ Greater → AllGreater (drop i xs) x
greater_from [] i x up in' greater = absurd (omega arith)
greater_from (y ∷ ys) zero x up in' greater = (greater, all_greater ys y x greater (sorted_head octets_cmp y ys up))
greater_from (y ∷ ys) (suc i) x up in' greater = greater_from ys i x (sorted_tail octets_cmp y ys up) (omega arith) greater

-- where an equal string stands, nothing is put
insert_key-equal : (xs : List (List ℕ)) (i : ℕ) (x : List ℕ) → Ascend xs → i < length xs
    → octets_cmp (get_or xs i []) x ≡ Equal → insert_key octets_cmp xs x ≡ xs
insert_key-equal [] i x up in' equal = absurd (omega arith)
insert_key-equal (y ∷ ys) zero x up in' equal = rw (nat_list_cmp_total.antisymm x y ∙ ap ordering_reverse equal) refl
insert_key-equal (y ∷ ys) (suc i) x up in' equal =
    let less : octets_cmp y x ≡ Less =
    subst (λ z. octets_cmp y z ≡ Less) (exact_bytes (get_or ys i []) x equal) (first_less y ys i up (omega arith)) in
    rw (greater_from_less y x less)
    (ap (λ zs. y ∷ zs) (insert_key-equal ys i x (sorted_tail octets_cmp y ys up) (omega arith) equal))

-- behind the smaller ones and before the greater ones
insert_key-between : (xs : List (List ℕ)) (i : ℕ) (x : List ℕ) → AllLess (take i xs) x → AllGreater (drop i xs) x
    → insert_key octets_cmp xs x ≡ take i xs ++ x ∷ drop i xs
insert_key-between [] zero x less greater = refl
insert_key-between [] (suc i) x less greater = refl
insert_key-between (y ∷ ys) zero x less greater = rw (less_from_greater y x greater.0) refl
insert_key-between (y ∷ ys) (suc i) x less greater =
    rw (greater_from_less y x less.0) (ap (λ zs. y ∷ zs) (insert_key-between ys i x less.1 greater))

-- ---- the steps of the search

module _ (f : ℕ → List ℕ) (places : List ℕ) where
  -- the place of a string among the data of these places is from low to high
  pub record Between (low high : ℕ) (x : List ℕ) : Type 0 where
    pub order : low ≤ high
    pub within : high ≤ length places
    pub less : AllLess (take low (map f places)) x
    pub greater : AllGreater (drop high (map f places)) x

  pub between_none : (x : List ℕ) → Between 0 (length places) x
  between_none x = record {
    order = omega arith;
    within = omega arith;
    less = tt;
    greater = rw (drop_all (length places) (map f places) (omega (arith, length-map places f))) tt;
  }

  pub between_less : (low high i : ℕ) (x : List ℕ) → Ascend (map f places) → Between low high x → i < high
      → octets_cmp (f (get_or places i 0)) x ≡ Less → Between (i + 1) high x
  between_less low high i x up b below less = record {
    order = omega arith;
    within = b.within;
    less = rw add-one (less_up_to (map f places) i x up (omega (arith, b.within, length-map places f))
        (rw (get_or-map f places i 0 [] (omega (arith, b.within))) less));
    greater = b.greater;
  }

  pub between_greater : (low high i : ℕ) (x : List ℕ) → Ascend (map f places) → Between low high x → low ≤ i → i < high
      → octets_cmp (f (get_or places i 0)) x ≡ Greater → Between low i x
  between_greater low high i x up b above below greater = record {
    order = above;
    within = omega (arith, b.within);
    less = b.less;
    greater = greater_from (map f places) i x up (omega (arith, b.within, length-map places f))
        (rw (get_or-map f places i 0 [] (omega (arith, b.within))) greater);
  }

  -- equal data stand there
  pub between_equal : (low high i : ℕ) (x : List ℕ) → Ascend (map f places) → Between low high x → i < high
      → octets_cmp (f (get_or places i 0)) x ≡ Equal → insert_key octets_cmp (map f places) x ≡ map f places
  between_equal low high i x up b below equal =
      insert_key-equal (map f places) i x up (omega (arith, b.within, length-map places f))
      (rw (get_or-map f places i 0 [] (omega (arith, b.within))) equal)

  -- nothing is left to search
  pub between_all : (low high : ℕ) (x : List ℕ) → Between low high x → high ≤ low
      → insert_key octets_cmp (map f places) x ≡ insert (map f places) low x
  between_all low high x b done =
      let same : high ≡ low = omega (arith, b.order) in
      insert_key-between (map f places) low x b.less (subst (λ n. AllGreater (drop n (map f places)) x) same b.greater)

-- ---- putting it there

-- the first places, those from i to n being moved by one
moved : (xs : List ℕ) (i n : ℕ) → i ≤ n → n < length xs
    → take (n + 1) (paste xs (i + 1) (drop i xs) (n - i)) ≡ take i xs ++ get_or xs i 0 ∷ take (n - i) (drop i xs)
moved xs i n within room =
    let end : n + 1 ≡ i + 1 + (n - i) = omega arith in
    ap (λ k. take k (paste xs (i + 1) (drop i xs) (n - i))) end
    ∙ take-paste xs (i + 1) (drop i xs) (n - i) (omega arith) (omega (arith, length-drop i xs))
    ∙ ap (λ ys. ys ++ take (n - i) (drop i xs)) (take_more xs i 0 (omega arith))
    ∙ append_assoc (take i xs) (get_or xs i 0 ∷ []) (take (n - i) (drop i xs))

-- with a place that is written at i: it is put there among the first n
pub put_there : (xs : List ℕ) (i n x : ℕ) → i ≤ n → n < length xs
    → take (n + 1) (set (paste xs (i + 1) (drop i xs) (n - i)) i x) ≡ insert (take n xs) i x
put_there xs i n x within room =
    let first : length (take i xs) ≡ i = length-take-le i xs (omega arith) in
    let whole : n ≡ i + (n - i) = omega arith in
    let rest : drop i (take n xs) ≡ take (n - i) (drop i xs) =
    ap (λ k. drop i (take k xs)) whole ∙ drop-take i (n - i) xs in
    take-set-lt (n + 1) (paste xs (i + 1) (drop i xs) (n - i)) i x (omega arith)
    ∙ ap (λ ys. set ys i x) (moved xs i n within room)
    ∙ set_at (take i xs) (get_or xs i 0) (take (n - i) (drop i xs)) x i first
    ∙ sym (λ t. take-take i n xs within t ++ x ∷ rest t)

-- ---- what is said of the list with it

pub ascend_none : Ascend []
unfolding ascending
ascend_none = ascends []

-- a string put among others, as a step of `ascending`
pub ascending_more : (xs : List (List ℕ)) (x : List ℕ)
    → insert_key octets_cmp (ascending xs) x ≡ ascending (xs ++ x ∷ [])
unfolding ascending
ascending_more xs x = sym (fold-append (insert_key octets_cmp) [] xs (x ∷ []))

-- it still ascends
pub ascend_put : (xs : List (List ℕ)) (x : List ℕ) → Ascend xs → Ascend (insert_key octets_cmp xs x)
ascend_put xs x up =
    let sorted : ascending xs ≡ xs = sym (ascending_one xs xs up (λ string. refl)) in
    subst (λ ys. Ascend (insert_key octets_cmp ys x)) sorted
    (subst Ascend (sym (ascending_more xs x)) (ascends (xs ++ x ∷ [])))

pub map-insert : (f : ℕ → List ℕ) (xs : List ℕ) (i x : ℕ) → map f (insert xs i x) ≡ insert (map f xs) i (f x)
map-insert f xs i x = simp (map-append, take-map, drop-map)

-- each place of it stands
pub all_put : (P : ℕ → Type 0) (xs : List ℕ) (i x : ℕ) → All P xs → P x → All P (insert xs i x)
all_put P xs i x all one =
    All-append P (take i xs) (x ∷ drop i xs) (All-take P i xs all) (All-cons P x (drop i xs) one (All-drop P i xs all))
