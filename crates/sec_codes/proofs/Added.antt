-- An algorithm that is added to a set.
use Rattle.std.proofs.Common.{Bool, true, false, ◌≡◌, ◌≢◌, ◌↔◌, ◌⊎◌, inl, inr, IsTrue, Contains, ℕ, zero, suc, ◌+◌, ◌*◌}
use Rattle.std.proofs.Common.{◌%◌, ◌^◌, ◌<◌, List, [], ◌∷◌, ◌++◌, length, take, get_or, map, bit_or, Option, Some, None}
use Rattle.std.proofs.Common.{refl, sym, ap, ◌∙◌, subst, lit<, cond, arith}
use Rattle.std.specs.Prelude.{nat_eq, ◌==◌, filter}
use Rattle.std.proofs.Math.ListN.{set}
use Rattle.std.specs.Int.{bit_at, w8}
use Rattle.std.specs.Option.{MatchOption}
use Rattle.std.proofs.lemmas.Bool.Decides.{Decides-eqb}
use Rattle.std.proofs.lemmas.List.{take_more, take_more_set, map-append, append-nil}
use Rattle.std.proofs.lemmas.List.Elements.{Contains-push, Contains-append_left, Contains-push_cases, filter_more}
use Rattle.std.proofs.lemmas.List.Elements.{filter_passes, All-contains}
use Rattle.std.proofs.lemmas.Nat.{or_lt}
use Rattle.std.proofs.lemmas.Nat.Bits.{bit_at-zero, bit_at_set_same, bit_at_set_other}
use Rattle.sec_codes.specs.declared.algorithm.Algorithm.{Algorithm}
use Rattle.sec_codes.specs.declared.algorithm.Algorithm.TheVariants.{RSAMD5, DSA, RSASHA1, RSASHA1NSEC3SHA1, RSASHA256}
use Rattle.sec_codes.specs.declared.algorithm.Algorithm.TheVariants.{RSASHA512, ECDSAP256SHA256, ECDSAP384SHA384}
use Rattle.sec_codes.specs.declared.algorithm.Algorithm.TheVariants.{ED25519, Unknown}
use Rattle.sec_codes.specs.Algorithms.{number, supported, algorithm_numbered}
use Rattle.sec_codes.specs.AlgorithmSets.{seven, place, has, members, IsSetOf, Adds}

-- what a place says of its algorithm
record Placed (a : Algorithm) (i : ℕ) : Type 0 where
  found : get_or seven i RSAMD5 ≡ a
  below : i < 7
  bit : (1 * 2 ^ i) % 256 < 2 ^ 7
  taken : supported a ≡ true

-- the supported algorithms are those that have a place
places : (a : Algorithm) → MatchOption (place a) (supported a ≡ false) (Placed a)
places RSAMD5 = refl
places DSA = refl
places RSASHA1 = record { found = refl; below = lit< tt; bit = lit< tt; taken = refl }
places RSASHA256 = record { found = refl; below = lit< tt; bit = lit< tt; taken = refl }
places RSASHA1NSEC3SHA1 = record { found = refl; below = lit< tt; bit = lit< tt; taken = refl }
places RSASHA512 = record { found = refl; below = lit< tt; bit = lit< tt; taken = refl }
places ECDSAP256SHA256 = record { found = refl; below = lit< tt; bit = lit< tt; taken = refl }
places ECDSAP384SHA384 = record { found = refl; below = lit< tt; bit = lit< tt; taken = refl }
places ED25519 = record { found = refl; below = lit< tt; bit = lit< tt; taken = refl }
places (Unknown n) = refl

placed : (a : Algorithm) (i : ℕ) → place a ≡ Some i → Placed a i
placed a i e = let P : Option ℕ → Type 0 = λ o. MatchOption o (supported a ≡ false) (Placed a) in subst P e (places a)

unplaced : (a : Algorithm) → place a ≡ None → supported a ≡ false
unplaced a e = let P : Option ℕ → Type 0 = λ o. MatchOption o (supported a ≡ false) (Placed a) in subst P e (places a)

-- a set stays one of the seven bits
pub set_small : (s : ℕ) → s < 128 → (a : Algorithm) (i : ℕ) → place a ≡ Some i → bit_or s ((1 * 2 ^ i) % 256) < 128
set_small s small a i e = or_lt 7 s ((1 * 2 ^ i) % 256) small (placed a i e).bit

module _ (s i : ℕ) (a b : Algorithm) (e : place a ≡ Some i) where
  abbrev added : ℕ
  added = bit_or s ((1 * 2 ^ i) % 256)

  by_place : (o : Option ℕ) → place b ≡ o → IsTrue (has added b) ↔ (IsTrue (has s b) ⊎ ((b ≡ a) × IsTrue (supported a)))
  by_place None f = (
    λ h. absurd (let n : false ≡ true = rw f at h in cc),
    elim [
      | inl h ↦ absurd (let n : false ≡ true = rw f at h in cc)
      | inr h ↦ absurd
          (let n : place a ≡ place b = ap place (sym h.0) in cc)
    ],
  )
  by_place (Some j) f = at (nat_eq j i) refl
    where
      at : (t : Bool) → nat_eq j i ≡ t → IsTrue (has added b) ↔ (IsTrue (has s b) ⊎ ((b ≡ a) × IsTrue (supported a)))
      at true t =
          let same : j ≡ i = (Decides-eqb j i).0 t in
          let one : b ≡ a = sym (placed b j f).found ∙ ap (λ k. get_or seven k RSAMD5) same ∙ (placed a i e).found in (
            λ _. inr (one, (placed a i e).taken),
            λ _.
                rw (f, same, bit_at_set_same w8 s i (let k : i < 7 = (placed a i e).below in omega arith)) refl,
          )
      at false t =
          let other : j ≢ i = λ h. let n : nat_eq j i ≡ true = (Decides-eqb j i).1 h in cc in
          let kept : bit_at added j ≡ bit_at s j = bit_at_set_other w8 s i
          (let k : i < 7 = (placed a i e).below in omega arith) j other in (
            λ h. inl (rw f (rw (f, kept) at h)),
            elim [
              | inl h ↦ rw (f, kept) (rw f at h)
              | inr h ↦ absurd
                  (let n : place a ≡ place b = ap place (sym h.0) in let m : j ≡ i = cc in other m)
            ],
          )

pub set_adds : (s i : ℕ) (a : Algorithm) → place a ≡ Some i → Adds s (bit_or s ((1 * 2 ^ i) % 256)) a
set_adds s i a e b = by_place s i a b e (place b) refl

-- an algorithm without a place adds nothing
pub adds_nothing : (s : ℕ) (a : Algorithm) → place a ≡ None → Adds s s a
adds_nothing s a e b = (
  λ h. inl h,
  elim [
    | inl h ↦ h
    | inr h ↦ absurd
        (let n : supported a ≡ false = unplaced a e in let y : supported a ≡ true = h.1 in cc)
  ],
)

-- the empty set has none
none_yet : (b : Algorithm) → (o : Option ℕ) → place b ≡ o → IsTrue (has 0 b) → ⊥
none_yet b None f h = absurd (let n : false ≡ true = rw f at h in cc)
none_yet b (Some j) f h = absurd (let n : (bit_at 0 j == 1) ≡ true = rw f at h in let m : false ≡ true =
    rw (bit_at-zero j) at n in cc)

pub set_of_none : IsSetOf 0 []
set_of_none b = (λ h. absurd (none_yet b (place b) refl h), λ h. absurd (let lt : h.0.0 < 0 = h.0.1 in omega arith))

-- one more algorithm
pub set_of_more : (s t : ℕ) (xs : List Algorithm) (x : Algorithm) → IsSetOf s xs → Adds s t x → IsSetOf t (xs ++ x ∷ [])
set_of_more s t xs x old add b = (there, back)
  where
    there : IsTrue (has t b) → Contains (xs ++ x ∷ []) b × IsTrue (supported b)
    there h = elim ((add b).0 h) [
      | inl k ↦ (Contains-append_left xs (x ∷ []) b ((old b).0 k).0, ((old b).0 k).1)
      | inr
          k ↦ (
            let P : Algorithm → Type 0 = λ a. Contains (xs ++ x ∷ []) a in
                subst P (sym k.0) (Contains-push xs x),
            rw k.0 k.1,
          )
    ]

    back : Contains (xs ++ x ∷ []) b × IsTrue (supported b) → IsTrue (has t b)
    back h = elim (Contains-push_cases xs x b h.0)
        [ inl k ↦ (add b).1 (inl ((old b).1 (k, h.1))) | inr k ↦ (add b).1 (inr (sym k, rw k h.1)) ]

-- one more algorithm of a list that is gone through
pub set_of_next : (s t : ℕ) (xs : List Algorithm) (i : ℕ) → i < length xs → IsSetOf s (take i xs)
    → Adds s t (get_or xs i RSAMD5) → IsSetOf t (take (i + 1) xs)
set_of_next s t xs i h old add = let P : List Algorithm
    → Type 0 = λ ys. IsSetOf t ys in subst P (sym (take_more xs i RSAMD5 h))
    (set_of_more s t (take i xs) (get_or xs i RSAMD5) old add)

-- the same of a list of numbers
pub set_of_next_number : (s t : ℕ) (ns : List ℕ) (i : ℕ) → i < length ns
    → IsSetOf s (map algorithm_numbered (take i ns)) → Adds s t (algorithm_numbered (get_or ns i 0))
    → IsSetOf t (map algorithm_numbered (take (i + 1) ns))
set_of_next_number s t ns i h old add = let P : List Algorithm
    → Type 0 = λ ys. IsSetOf t ys in subst P (sym
    (ap (map algorithm_numbered) (take_more ns i 0 h)
    ∙ map-append algorithm_numbered (take i ns) (get_or ns i 0 ∷ [])))
    (set_of_more s t (map algorithm_numbered (take i ns)) (algorithm_numbered (get_or ns i 0)) old add)

-- the numbers of the members, as far as a list is gone through
pub number_kept : (s : ℕ) (xs : List Algorithm) (i count : ℕ) (numbers : List ℕ) → i < length xs
    → count < length numbers → take count numbers ≡ map number (filter (has s) (take i xs))
    → has s (get_or xs i RSAMD5) ≡ true → take (count + 1) (set numbers count (number (get_or xs i RSAMD5)))
    ≡ map number (filter (has s) (take (i + 1) xs))
number_kept s xs i count numbers h room kept on =
    take_more_set numbers count (number (get_or xs i RSAMD5)) room
    ∙ ap (λ ns. ns ++ number (get_or xs i RSAMD5) ∷ []) kept
    ∙ sym (map-append number (filter (has s) (take i xs)) (get_or xs i RSAMD5 ∷ []))
    ∙ sym (ap (map number) (filter_more (has s) xs i RSAMD5 h
    ∙ ap (λ b. filter (has s) (take i xs) ++ cond b (get_or xs i RSAMD5 ∷ []) []) on))

pub number_passed : (s : ℕ) (xs : List Algorithm) (i : ℕ) → i < length xs → has s (get_or xs i RSAMD5) ≡ false
    → map number (filter (has s) (take i xs)) ≡ map number (filter (has s) (take (i + 1) xs))
number_passed s xs i h off =
    sym (ap (map number) (filter_more (has s) xs i RSAMD5 h
    ∙ ap (λ b. filter (has s) (take i xs) ++ cond b (get_or xs i RSAMD5 ∷ []) []) off
    ∙ append-nil (filter (has s) (take i xs))))

-- an element that passes is kept by a filter
module _ (p : Algorithm → Bool) (a : Algorithm) (passes : p a ≡ true) where
  under : (b : Bool) (x : Algorithm) (ys : List Algorithm) → Contains ys a → Contains (cond b (x ∷ ys) ys) a
  under true x ys (k, below, found) = (suc k, omega arith, found)
  under false x ys h = h

  pub kept : (xs : List Algorithm) (i : ℕ) → i < length xs → get_or xs i RSAMD5 ≡ a → Contains (filter p xs) a
  kept [] i h e = absurd (omega arith)
  kept (x ∷ xs) zero h e = let on : p x ≡ true = ap p e ∙ passes in rw on (0, omega arith, e)
  kept (x ∷ xs) (suc i) h e = under (p x) x (filter p xs) (kept xs i (omega arith) e)

had : (s : ℕ) (a : Algorithm) (o : Option ℕ) → place a ≡ o → IsTrue (has s a) → Contains (members s) a
had s a None f h = absurd (let n : false ≡ true = rw f at h in cc)
had s a (Some i) f h = kept (has s) a h seven i (placed a i f).below (placed a i f).found

-- the members of a set are the algorithms that it has
pub members_had : (s : ℕ) (a : Algorithm) → Contains (members s) a ↔ IsTrue (has s a)
members_had s a = (
  All-contains (λ x. has s x ≡ true) (members s) a (filter_passes (has s) seven),
  had s a (place a)
      refl,
)
