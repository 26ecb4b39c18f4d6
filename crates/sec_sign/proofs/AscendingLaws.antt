-- There is one ascending list of given strings.
use Rattle.std.proofs.Common.{◌≡◌, ℕ, refl, sym, ap, ◌∙◌, Bool, true, false, ◌||◌, List, [], ◌∷◌, fold}
use Rattle.std.specs.Prelude.{nat_eq}
use Rattle.std.specs.BTreeSet.{insert_key, BTreeSet}
use Rattle.std.specs.Cmp.{unsigned_ties}
use Rattle.std.specs.Cmp.Lexicographic.{pointwise, lists_ties}
use Rattle.std.specs.List.{AllByRecursion, list_any}
use Rattle.std.specs.List.Sorted.{IsStrictlySortedBy}
use Rattle.std.specs.Ordering.{nat_cmp, is_eq, ordering_reverse}
use Rattle.std.specs.declared.cmp.Ordering.{Ordering}
use Rattle.std.specs.declared.cmp.Ordering.TheVariants.{Less, Equal, Greater}
use Rattle.std.proofs.lemmas.Cmp.{nat_list_cmp_total}
use Rattle.std.proofs.lemmas.Map.Keys.{sorted_head, sorted_tail}
use Rattle.std.proofs.lemmas.Map.Lookups.{exact_bytes, btree_set_from_contains}
use Rattle.sec_sign.specs.Ascending.{ascending, octets_cmp, Ascend, is_among, SameStrings}
use Rattle.sec_sign.proofs.Ascending.{each-insert_key}

-- ---- they ascend

ascend-cons : (x : List ℕ) (xs : List (List ℕ)) → AllByRecursion (λ y. octets_cmp x y ≡ Less) xs → Ascend xs
    → Ascend (x ∷ xs)
unfolding IsStrictlySortedBy
ascend-cons x xs all up = (all, up)

ascend-none : Ascend []
unfolding IsStrictlySortedBy
ascend-none = tt

all_less : (x y : List ℕ) (zs : List (List ℕ)) → octets_cmp x y ≡ Less → AllByRecursion (λ z. octets_cmp y z ≡ Less) zs
    → AllByRecursion (λ z. octets_cmp x z ≡ Less) zs
all_less x y [] less all = tt
all_less x y (z ∷ zs) less all = (nat_list_cmp_total.trans x y z less all.0, all_less x y zs less all.1)

ascend-insert_key : (xs : List (List ℕ)) (x : List ℕ) → Ascend xs → Ascend (insert_key octets_cmp xs x)
ascend-insert_key [] x up = ascend-cons x [] tt up
ascend-insert_key (y ∷ ys) x up = at (octets_cmp x y) refl (ascend-insert_key ys x (sorted_tail octets_cmp y ys up))
  where
    at : (o : Ordering) → octets_cmp x y ≡ o → Ascend (insert_key octets_cmp ys x)
        → Ascend (insert_key octets_cmp (y ∷ ys) x)
    at Less e later =
        rw e (ascend-cons x (y ∷ ys) (e, all_less x y ys e (sorted_head octets_cmp y ys up)) up)
    at Equal e later = rw e up
    at Greater e later =
        let less : octets_cmp y x ≡ Less = nat_list_cmp_total.antisymm y x ∙ ap ordering_reverse e in
        rw e (ascend-cons y (insert_key octets_cmp ys x)
        (each-insert_key (λ z. octets_cmp y z ≡ Less) ys x (sorted_head octets_cmp y ys up) less) later)

ascend-fold : (xs ys : List (List ℕ)) → Ascend xs → Ascend (fold (insert_key octets_cmp) xs ys)
ascend-fold xs [] up = up
ascend-fold xs (y ∷ ys) up = ascend-fold (insert_key octets_cmp xs y) ys (ascend-insert_key xs y up)

pub ascends : (xs : List (List ℕ)) → Ascend (ascending xs)
unfolding ascending
ascends xs = ascend-fold [] xs ascend-none

-- ---- they are the same strings

twice : (a b : Bool) → (a || b) ≡ (a || (a || b))
twice true b = refl
twice false b = refl

turned : (a b c : Bool) → (b || (a || c)) ≡ (a || (b || c))
turned true true c = refl
turned true false c = refl
turned false true c = refl
turned false false c = refl

regrouped : (a b c : Bool) → ((a || b) || c) ≡ (b || (a || c))
regrouped true true c = refl
regrouped true false c = refl
regrouped false true c = refl
regrouped false false c = refl

among-insert_key : (q : List ℕ) (xs : List (List ℕ)) (x : List ℕ)
    → is_among (insert_key octets_cmp xs x) q ≡ (pointwise nat_eq q x || is_among xs q)
among-insert_key q [] x = refl
among-insert_key q (y ∷ ys) x = at (octets_cmp x y) refl (among-insert_key q ys x)
  where
    at : (o : Ordering) → octets_cmp x y ≡ o
        → is_among (insert_key octets_cmp ys x) q ≡ (pointwise nat_eq q x || is_among ys q)
        → is_among (insert_key octets_cmp (y ∷ ys) x) q ≡ (pointwise nat_eq q x || is_among (y ∷ ys) q)
    at Less e later = rw e refl
    at Equal e later = rw (e, exact_bytes x y e) (twice (pointwise nat_eq q y) (is_among ys q))
    at Greater e later = rw (e, later) (turned (pointwise nat_eq q x) (pointwise nat_eq q y) (is_among ys q))

among-fold : (q : List ℕ) (xs ys : List (List ℕ))
    → is_among (fold (insert_key octets_cmp) xs ys) q ≡ (is_among xs q || is_among ys q)
among-fold q xs [] = none (is_among xs q)
  where
    none : (b : Bool) → b ≡ (b || false)
    none true = refl
    none false = refl
among-fold q xs (y ∷ ys) = among-fold q (insert_key octets_cmp xs y) ys
    ∙ rw (among-insert_key q xs y) (regrouped (pointwise nat_eq q y) (is_among xs q) (is_among ys q))

pub ascending_same : (xs : List (List ℕ)) → SameStrings (ascending xs) xs
unfolding ascending
ascending_same xs q = among-fold q [] xs

-- ---- there is one such list

among_keys : (xs : List (List ℕ)) (q : List ℕ) → is_among xs q ≡ list_any (λ x. is_eq (octets_cmp q x)) xs
among_keys xs q = λ i. list_any (λ x. lists_ties nat_cmp unsigned_ties q x i) xs

pub ascending_one : (xs ys : List (List ℕ)) → Ascend ys → SameStrings ys xs → ys ≡ ascending xs
ascending_one xs ys up same =
    let set : BTreeSet (List ℕ) = record { keys = ys } in
    let other : BTreeSet (List ℕ) = record { keys = ascending xs } in
    btree_set_from_contains nat_list_cmp_total set other up (ascends xs)
    (λ q. sym (among_keys ys q) ∙ same q ∙ sym (ascending_same xs q) ∙ among_keys (ascending xs) q) exact_bytes
