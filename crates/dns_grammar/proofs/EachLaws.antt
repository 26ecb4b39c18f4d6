-- Values one behind the other are read exactly where they stand.
use Rattle.std.proofs.Common.{◌≡◌, ℕ, zero, suc, ◌-◌, List, [], ◌∷◌, ◌++◌, length, Some, Result, Ok, refl, sym, ap}
use Rattle.std.proofs.Common.{subst, arith}
use Rattle.std.specs.List.{AllByRecursion}
use Rattle.dns_wire.specs.declared.error.DecodeError.{DecodeError}
use Rattle.dns_wire.specs.Reading.{each_at}
use Rattle.dns_grammar.specs.Messages.{EachAt, last_of, before_last}
use Rattle.dns_wire.proofs.FieldLaws.{is_ok_same, bind_ok}

pub each_stands : {A : Type 0} (read : ℕ → Result (A × ℕ) DecodeError) (at : ℕ → A → ℕ → Type 0)
    → ((p : ℕ) (x : A) (q : ℕ) → read p ≡ Ok (x, q) → at p x q)
    → (n p : ℕ) (xs : List A) (q : ℕ) → each_at read n p ≡ Ok (xs, q) → EachAt at p xs q × (length xs ≡ n)
unfolding each_at
each_stands {A} read at one zero p xs q h = subst (λ (y : List A × ℕ). EachAt at p y.0 y.1 × (length y.0 ≡ 0))
    (is_ok_same ([], p) (xs, q) h) (refl, refl)
each_stands {A} read at one (suc n) p xs q h =
    let first = bind_ok (read p) _ (xs, q) h in
    let rest = bind_ok (each_at read n first.0.1) _ (xs, q) first.2 in
    let behind = each_stands read at one n first.0.1 rest.0.0 rest.0.1 rest.1 in
    subst (λ (y : List A × ℕ). EachAt at p y.0 y.1 × (length y.0 ≡ suc n))
    (is_ok_same (first.0.0 ∷ rest.0.0, rest.0.1) (xs, q) rest.2)
    ((first.0.1, one p first.0.0 first.0.1 first.1, behind.0), ap (λ (k : ℕ). suc k) behind.1)

pub each_read : {A : Type 0} (read : ℕ → Result (A × ℕ) DecodeError) (at : ℕ → A → ℕ → Type 0)
    → ((p : ℕ) (x : A) (q : ℕ) → at p x q → read p ≡ Ok (x, q))
    → (p : ℕ) (xs : List A) (q : ℕ) → EachAt at p xs q → each_at read (length xs) p ≡ Ok (xs, q)
unfolding each_at
each_read read at one p [] q s = rw s refl
each_read read at one p (x ∷ xs) q s = rw (one p x s.0 s.1, each_read read at one s.0 xs q s.2) refl

-- what holds of each of them besides
pub each_split : {A : Type 0} (at : ℕ → A → ℕ → Type 0) (P : A → Type 0) (p : ℕ) (xs : List A) (q : ℕ)
    → EachAt (λ k x r. at k x r × P x) p xs q → EachAt at p xs q × AllByRecursion P xs
each_split at P p [] q s = (s, tt)
each_split at P p (x ∷ xs) q s = let rest = each_split at P s.0 xs q s.2 in ((s.0, s.1.0, rest.0), (s.1.1, rest.1))

pub each_both : {A : Type 0} (at : ℕ → A → ℕ → Type 0) (P : A → Type 0) (p : ℕ) (xs : List A) (q : ℕ) → EachAt at p xs q
    → AllByRecursion P xs → EachAt (λ k x r. at k x r × P x) p xs q
each_both at P p [] q s all = s
each_both at P p (x ∷ xs) q s all = (s.0, (s.1, all.0), each_both at P s.0 xs q s.2 all.1)

-- ---- the last of them, and those before it

-- the last stands behind those before it
pub each_last : {A : Type 0} (at : ℕ → A → ℕ → Type 0) (p : ℕ) (xs : List A) (x : A) (q : ℕ) → last_of xs ≡ Some x
    → EachAt at p xs q
    → (r : ℕ) × EachAt at p (before_last xs) r × at r x q
each_last at p [] x q last s = absurd cc
each_last {A} at p (y ∷ []) x q last s =
    let same : y ≡ x = cc in
    (p, refl, subst (λ (z : A). at p z q) same (subst (λ k. at p y k) (sym s.2) s.1))
each_last at p (y ∷ z ∷ ys) x q last s = let rest = each_last at s.0 (z ∷ ys) x q last s.2 in
    (rest.0, (s.0, s.1, rest.1), rest.2)

pub length-before_last : {A : Type 0} (xs : List A) → length (before_last xs) ≡ length xs - 1
length-before_last [] = refl
length-before_last (x ∷ []) = refl
length-before_last (x ∷ y ∷ xs) = let rest = length-before_last (y ∷ xs) in omega (arith, rest)

-- a list with one more at the end
pub last_of-more : {A : Type 0} (xs : List A) (x : A) → last_of (xs ++ x ∷ []) ≡ Some x
last_of-more [] x = refl
last_of-more (y ∷ []) x = refl
last_of-more (y ∷ z ∷ ys) x = last_of-more (z ∷ ys) x

pub before_last-more : {A : Type 0} (xs : List A) (x : A) → before_last (xs ++ x ∷ []) ≡ xs
before_last-more [] x = refl
before_last-more (y ∷ []) x = refl
before_last-more (y ∷ z ∷ ys) x = ap (λ l. y ∷ l) (before_last-more (z ∷ ys) x)
