-- What an ordered set of vectors is as a list of octet strings.
use Rattle.std.proofs.Common.{◌≡◌, ℕ, ◌<◌, refl, ap, List, [], ◌∷◌, length, map, fold}
use Rattle.std.proofs.Common.{arith}
use Rattle.std.specs.List.{All, AllByRecursion}
use Rattle.std.proofs.lemmas.List.Elements.{All-cons, All-head, All-tail}
use Rattle.std.specs.BTreeSet.{insert_key}
use Rattle.std.specs.declared.cmp.Ordering.{Ordering}
use Rattle.std.specs.declared.cmp.Ordering.TheVariants.{Less, Equal, Greater}
use Rattle.sec_sign.specs.Ascending.{ascending, octets_cmp}

module _ {X : Type 0} (f : X → List ℕ) where
  abbrev by_octets : X → X → Ordering
  by_octets x y = octets_cmp (f x) (f y)

  -- a key put among keys, each seen as its octets
  pub map-insert_key : (xs : List X) (x : X) → map f (insert_key by_octets xs x) ≡ insert_key octets_cmp (map f xs) (f x)
  map-insert_key [] x = refl
  map-insert_key (y ∷ ys) x = at (octets_cmp (f x) (f y)) refl (map-insert_key ys x)
    where
      at : (o : Ordering) → octets_cmp (f x) (f y) ≡ o
          → map f (insert_key by_octets ys x) ≡ insert_key octets_cmp (map f ys) (f x)
          → map f (insert_key by_octets (y ∷ ys) x) ≡ insert_key octets_cmp (map f (y ∷ ys)) (f x)
      at Less e later = rw e refl
      at Equal e later = rw e refl
      at Greater e later = rw e (ap (λ zs. f y ∷ zs) later)

  -- what holds of each key and of the new one
  pub all-insert_key : (P : X → Type 0) (xs : List X) (x : X) → All P xs → P x → All P (insert_key by_octets xs x)
  all-insert_key P [] x all one = All-cons P x [] one all
  all-insert_key P (y ∷ ys) x all one =
      at (octets_cmp (f x) (f y)) refl (all-insert_key P ys x (All-tail P y ys all) one)
    where
      at : (o : Ordering) → octets_cmp (f x) (f y) ≡ o → All P (insert_key by_octets ys x)
          → All P (insert_key by_octets (y ∷ ys) x)
      at Less e later = rw e (All-cons P x (y ∷ ys) one all)
      at Equal e later = rw e all
      at Greater e later = rw e (All-cons P y _ (All-head P y ys all) later)

-- ---- the strings in ascending order

-- what holds of each string and of the new one
pub each-insert_key : (P : List ℕ → Type 0) (xs : List (List ℕ)) (x : List ℕ) → AllByRecursion P xs → P x
    → AllByRecursion P (insert_key octets_cmp xs x)
each-insert_key P [] x all one = (one, tt)
each-insert_key P (y ∷ ys) x all one = at (octets_cmp x y) refl (each-insert_key P ys x all.1 one)
  where
    at : (o : Ordering) → octets_cmp x y ≡ o → AllByRecursion P (insert_key octets_cmp ys x)
        → AllByRecursion P (insert_key octets_cmp (y ∷ ys) x)
    at Less e later = rw e (one, all)
    at Equal e later = rw e all
    at Greater e later = rw e (all.0, later)

each-fold : (P : List ℕ → Type 0) (xs ys : List (List ℕ)) → AllByRecursion P xs → AllByRecursion P ys
    → AllByRecursion P (fold (insert_key octets_cmp) xs ys)
each-fold P xs [] all others = all
each-fold P xs (y ∷ ys) all others =
    each-fold P (insert_key octets_cmp xs y) ys (each-insert_key P xs y all others.0) others.1

-- what holds of each string
pub each-ascending : (P : List ℕ → Type 0) (xs : List (List ℕ)) → AllByRecursion P xs → AllByRecursion P (ascending xs)
unfolding ascending
each-ascending P xs all = each-fold P [] xs tt all

some-insert_key : (xs : List (List ℕ)) (x : List ℕ) → 0 < length (insert_key octets_cmp xs x)
some-insert_key [] x = omega arith
some-insert_key (y ∷ ys) x = at (octets_cmp x y) refl
  where
    at : (o : Ordering) → octets_cmp x y ≡ o → 0 < length (insert_key octets_cmp (y ∷ ys) x)
    at Less e = rw e (omega arith)
    at Equal e = rw e (omega arith)
    at Greater e = rw e (omega arith)

some-fold : (xs ys : List (List ℕ)) → 0 < length xs → 0 < length (fold (insert_key octets_cmp) xs ys)
some-fold xs [] some = some
some-fold xs (y ∷ ys) some = some-fold (insert_key octets_cmp xs y) ys (some-insert_key xs y)

-- some strings are some in ascending order
pub some-ascending : (xs : List (List ℕ)) → 0 < length xs → 0 < length (ascending xs)
unfolding ascending
some-ascending [] some = absurd (omega arith)
some-ascending (x ∷ xs) some = some-fold (insert_key octets_cmp [] x) xs (some-insert_key [] x)

-- no strings are none in ascending order
pub none-ascending : (xs : List (List ℕ)) → length xs ≡ 0 → ascending xs ≡ []
unfolding ascending
none-ascending [] none = refl
none-ascending (x ∷ xs) none = absurd (omega arith)
