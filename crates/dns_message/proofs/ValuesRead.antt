-- Values read one behind the other into a list, as a loop reads them.
use Rattle.std.proofs.Common.{◌≡◌, ℕ, zero, suc, ◌+◌, ◌-◌, ◌<◌, ◌≤◌, List, [], ◌∷◌, ◌++◌, map, Result, Ok, Err, refl}
use Rattle.std.proofs.Common.{sym, ap, ◌∙◌, arith, append_assoc, append-nil}
use Rattle.std.specs.List.{AllByRecursion}
use Rattle.std.proofs.lemmas.List.{map-append}
use Rattle.dns_wire.specs.declared.error.DecodeError.{DecodeError}
use Rattle.dns_wire.specs.Reading.{◌>>=◌, each_at}

-- values that were read, and those that are still to be read
abbrev pub after : {A : Type 0} → List A → Result (List A × ℕ) DecodeError → Result (List A × ℕ) DecodeError
after xs rest = rest >>= λ x. Ok (xs ++ x.0, x.1)

-- none was read
pub none_yet : {A : Type 0} (rest : Result (List A × ℕ) DecodeError) → after [] rest ≡ rest
none_yet (Ok x) = refl
none_yet (Err fault) = refl

one_more : {A : Type 0} (xs : List A) (x : A) (rest : Result (List A × ℕ) DecodeError)
    → after xs (rest >>= λ y. Ok (x ∷ y.0, y.1)) ≡ after (xs ++ x ∷ []) rest
one_more xs x (Ok y) = ap (λ l. Ok (l, y.1)) (sym (append_assoc xs (x ∷ []) y.0))
one_more xs x (Err fault) = refl

one_first : {A : Type 0} (read : ℕ → Result (A × ℕ) DecodeError) (xs : List A) (n : ℕ)
    (first : Result (A × ℕ) DecodeError)
    → after xs (first >>= λ x. each_at read n x.1 >>= λ y. Ok (x.0 ∷ y.0, y.1))
    ≡ (first >>= λ x. after (xs ++ x.0 ∷ []) (each_at read n x.1))
one_first read xs n (Ok x) = one_more xs x.0 (each_at read n x.1)
one_first read xs n (Err fault) = refl

pub next_read : {A : Type 0} (read : ℕ → Result (A × ℕ) DecodeError) (xs : List A) (n i p : ℕ) → i < n
    → after xs (each_at read (n - i) p) ≡ (read p >>= λ x. after (xs ++ x.0 ∷ []) (each_at read (n - (i + 1)) x.1))
unfolding each_at
next_read read xs n i p lt = let more : n - i ≡ suc (n - (i + 1)) = omega arith in rw more
    (one_first read xs (n - (i + 1)) (read p))

pub all_read : {A : Type 0} (read : ℕ → Result (A × ℕ) DecodeError) (xs : List A) (n i p : ℕ) → n ≤ i
    → after xs (each_at read (n - i) p) ≡ Ok (xs, p)
unfolding each_at
all_read read xs n i p le =
    let none : n - i ≡ 0 = omega arith in
    rw none (ap (λ l. Ok (l, p)) (append-nil xs))

-- ---- values of which something is shown

abbrev pub shown : {A B : Type 0} → (A → B) → A × ℕ → Result (B × ℕ) DecodeError
shown f x = Ok (f x.0, x.1)

abbrev pub all_shown : {A B : Type 0} → (A → B) → List A × ℕ → Result (List B × ℕ) DecodeError
all_shown f xs = Ok (map f xs.0, xs.1)

abbrev before : {A : Type 0} → A → List A × ℕ → Result (List A × ℕ) DecodeError
before x xs = Ok (x ∷ xs.0, xs.1)

shown_behind : {A B : Type 0} (f : A → B) (x : A) (rest : Result (List A × ℕ) DecodeError)
    → ((rest >>= all_shown f) >>= before (f x)) ≡ ((rest >>= before x) >>= all_shown f)
shown_behind f x (Ok y) = refl
shown_behind f x (Err e) = refl

shown_first : {A B : Type 0} (read : ℕ → Result (A × ℕ) DecodeError) (f : A → B) (n : ℕ)
    (first : Result (A × ℕ) DecodeError)
    → ((q : ℕ) → each_at (λ k. read k >>= shown f) n q ≡ (each_at read n q >>= all_shown f))
    → ((first >>= shown f) >>= λ x. each_at (λ k. read k >>= shown f) n x.1 >>= before x.0)
    ≡ ((first >>= λ x. each_at read n x.1 >>= before x.0) >>= all_shown f)
shown_first read f n (Ok x) rest =
    ap (λ r. r >>= before (f x.0)) (rest x.1) ∙ shown_behind f x.0 (each_at read n x.1)
shown_first read f n (Err e) rest = refl

pub each_shown : {A B : Type 0} (read : ℕ → Result (A × ℕ) DecodeError) (f : A → B) (n p : ℕ)
    → each_at (λ q. read q >>= shown f) n p ≡ (each_at read n p >>= all_shown f)
unfolding each_at
each_shown read f zero p = refl
each_shown read f (suc n) p = shown_first read f n (read p) (λ q. each_shown read f n q)

-- one more value was read and put behind the others
pub value_put : {A X : Type 0} (view : X → A) (read : List ℕ → ℕ → Result (A × ℕ) DecodeError) (m k : List ℕ)
    (xs ys : List X) (x : X) (n i p q : ℕ) (whole : Result (List A × ℕ) DecodeError)
    → after (map view xs) (each_at (read m) (n - i) p) ≡ whole → i < n → read m p ≡ Ok (view x, q) → k ≡ m
    → ys ≡ xs ++ x ∷ []
    → after (map view ys) (each_at (read k) (n - (i + 1)) q) ≡ whole
value_put view read m k xs ys x n i p q whole left lt first same put =
    (λ j. after (map view (put j)) (each_at (read (same j)) (n - (i + 1)) q))
    ∙ ap (λ l. after l (each_at (read m) (n - (i + 1)) q)) (map-append view xs (x ∷ []))
    ∙ sym (ap (λ r. r >>= λ y. after (map view xs ++ y.0 ∷ []) (each_at (read m) (n - (i + 1)) y.1)) first)
    ∙ sym (next_read (read m) (map view xs) n i p lt) ∙ left

-- what holds of each, and of one more
pub all_put : {A : Type 0} (P : A → Type 0) (xs : List A) (x : A) → AllByRecursion P xs → P x
    → AllByRecursion P (xs ++ x ∷ [])
all_put P [] x h one = (one, tt)
all_put P (y ∷ ys) x h one = (h.0, all_put P ys x h.1 one)
