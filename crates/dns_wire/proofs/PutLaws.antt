-- Octets put one behind the other.
use Rattle.std.proofs.Common.{◌≡◌, ℕ, ◌+◌, ◌<◌, ◌≤◌, List, [], ◌∷◌, ◌++◌, length, drop, get_or, Result, Ok, Err}
use Rattle.std.proofs.Common.{refl, sym, ap, subst, ◌∙◌, add-one, append_assoc, drop-cons}
use Rattle.std.proofs.lemmas.List.{drop_all, append-nil}
use Rattle.dns_wire.specs.declared.error.EmitError.{EmitError}
use Rattle.dns_wire.specs.Joining.{joined, each_octets}
use Rattle.dns_wire.specs.Sinks.{Puts, Takes}

pub joined_more : (a b c : Result (List ℕ) EmitError) → joined a (joined b c) ≡ joined (joined a b) c
joined_more (Ok x) (Ok y) (Ok z) = ap (λ (l : List ℕ). let ok : Result (List ℕ) EmitError = Ok l in ok)
    (sym (append_assoc x y z))
joined_more (Ok x) (Ok y) (Err e) = refl
joined_more (Ok x) (Err e) c = refl
joined_more (Err e) b c = refl

pub joined_nil : (r : Result (List ℕ) EmitError) → joined (Ok []) r ≡ r
joined_nil (Ok z) = refl
joined_nil (Err e) = refl

-- ---- pieces

pub takes_none : {Sink Purpose : Type 0} (has_taken : Sink → Purpose → List ℕ → Type 0) (old : Sink)
    → Takes has_taken old old []
takes_none has_taken old = λ purpose m has. subst (has_taken old purpose) (sym (append-nil m)) has

-- nothing is some octets
pub took_none : {Sink Purpose : Type 0} (has_taken : Sink → Purpose → List ℕ → Type 0) (old : Sink)
    → (some : List ℕ) × Takes has_taken old old some
took_none has_taken old = ([], takes_none has_taken old)

pub takes_both : {Sink Purpose : Type 0} (has_taken : Sink → Purpose → List ℕ → Type 0) (old now new : Sink)
    (x y : List ℕ) → Takes has_taken old now x → Takes has_taken now new y → Takes has_taken old new (x ++ y)
takes_both has_taken old now new x y first second = λ purpose m has.
    subst (has_taken new purpose) (append_assoc m x y) (second purpose (m ++ x) (first purpose m has))

-- two pieces, the first of which was put
pub puts_both : {Sink Purpose : Type 0} (has_taken : Sink → Purpose → List ℕ → Type 0) (old now new : Sink)
    (u : Unit {0}) (result : Result (Unit {0}) EmitError) (a b : Result (List ℕ) EmitError)
    → Puts has_taken (Ok u) old now a → Puts has_taken result now new b → Puts has_taken result old new (joined a b)
puts_both has_taken old now new u (Ok v) (Ok x) (Ok y) first second =
    takes_both has_taken old now new x y first second
puts_both has_taken old now new u (Ok v) (Ok x) (Err e) first second = absurd second
puts_both has_taken old now new u (Err e) (Ok x) b first second =
    ((x ++ second.0.0, takes_both has_taken old now new x second.0.0 first second.0.1), ap (joined (Ok x)) second.1)
puts_both has_taken old now new u result (Err e) b first second = absurd first

-- two pieces, the first of which can't be put
pub puts_fail : {Sink Purpose : Type 0} (has_taken : Sink → Purpose → List ℕ → Type 0) (old new : Sink)
    (e : EmitError) (a b : Result (List ℕ) EmitError)
    → Puts has_taken (Err e) old new a → Puts has_taken (Err e) old new (joined a b)
puts_fail has_taken old new e a b first = (first.0, ap (λ r. joined r b) first.1)

-- ---- many

-- the first i of these have been put
pub record HasPut {Sink Purpose A : Type 0} (has_taken : Sink → Purpose → List ℕ → Type 0)
    (written : A → Result (List ℕ) EmitError) (xs : List A) (i : ℕ) (old now : Sink) : Type 0 where
  pub put : List ℕ
  pub taken : Takes has_taken old now put
  pub rest : joined (Ok put) (each_octets written (drop i xs)) ≡ each_octets written xs

-- what is left, split at the first
next_octets : {A : Type 0} (written : A → Result (List ℕ) EmitError) (xs : List A) (i : ℕ) (d : A) → i < length xs
    → each_octets written (drop i xs) ≡ joined (written (get_or xs i d)) (each_octets written (drop (i + 1) xs))
next_octets written xs i d lt =
    let split : drop i xs ≡ get_or xs i d ∷ drop (i + 1) xs = rw (add-one, drop-cons xs i d) refl in
    ap (each_octets written) split

pub put_none : {Sink Purpose A : Type 0} (has_taken : Sink → Purpose → List ℕ → Type 0)
    (written : A → Result (List ℕ) EmitError) (xs : List A) (old : Sink)
    → HasPut has_taken written xs 0 old old
put_none has_taken written xs old = record {
  put = [];
  taken = takes_none has_taken old;
  rest = joined_nil (each_octets written xs);
}

put_one : {Sink Purpose A : Type 0} (has_taken : Sink → Purpose → List ℕ → Type 0)
    (written : A → Result (List ℕ) EmitError) (xs : List A) (i : ℕ) (d : A) (old now new : Sink) (u : Unit {0})
    (given : Result (List ℕ) EmitError) → i < length xs → HasPut has_taken written xs i old now
    → written (get_or xs i d) ≡ given → Puts has_taken (Ok u) now new given
    → HasPut has_taken written xs (i + 1) old new
put_one has_taken written xs i d old now new u (Err e) lt h is w = absurd w
put_one has_taken written xs i d old now new u (Ok y) lt h is w =
    let each = each_octets written in
    record {
      put = h.put ++ y;
      taken = takes_both has_taken old now new h.put y h.taken w;
      rest = sym (joined_more (Ok h.put) (Ok y) (each (drop (i + 1) xs)))
          ∙ ap (λ r. joined (Ok h.put) (joined r (each (drop (i + 1) xs)))) (sym is)
          ∙ ap (joined (Ok h.put)) (sym (next_octets written xs i d lt)) ∙ h.rest;
    }

pub put_more : {Sink Purpose A : Type 0} (has_taken : Sink → Purpose → List ℕ → Type 0)
    (written : A → Result (List ℕ) EmitError) (xs : List A) (i : ℕ) (x : A) (old now new : Sink) (u : Unit {0})
    → i < length xs → x ≡ get_or xs i x → HasPut has_taken written xs i old now
    → Puts has_taken (Ok u) now new (written x)
    → HasPut has_taken written xs (i + 1) old new
put_more has_taken written xs i x old now new u lt is h w =
    put_one has_taken written xs i x old now new u (written x) lt h (ap written (sym is)) w

pub put_fails : {Sink Purpose A : Type 0} (has_taken : Sink → Purpose → List ℕ → Type 0)
    (written : A → Result (List ℕ) EmitError) (xs : List A) (i : ℕ) (x : A) (old now new : Sink) (e : EmitError)
    → i < length xs → x ≡ get_or xs i x → HasPut has_taken written xs i old now
    → Puts has_taken (Err e) now new (written x)
    → Puts has_taken (Err e) old new (each_octets written xs)
put_fails has_taken written xs i x old now new e lt item h w =
    let each = each_octets written in
    let same : written (get_or xs i x) ≡ Err e = ap written (sym item) ∙ w.1 in
    let here : each (drop i xs) ≡ Err e =
    next_octets written xs i x lt ∙ ap (λ r. joined r (each (drop (i + 1) xs))) same in (
      (h.put ++ w.0.0, takes_both has_taken old now new h.put w.0.0 h.taken w.0.1),
      sym h.rest ∙ ap (joined (Ok h.put)) here,
    )

pub put_all : {Sink Purpose A : Type 0} (has_taken : Sink → Purpose → List ℕ → Type 0)
    (written : A → Result (List ℕ) EmitError) (xs : List A) (i : ℕ) (old now : Sink) (u : Unit {0})
    → length xs ≤ i → HasPut has_taken written xs i old now
    → Puts has_taken (Ok u) old now (each_octets written xs)
put_all has_taken written xs i old now u le h =
    let each = each_octets written in
    let all : joined (Ok h.put) (each []) ≡ each xs = ap (λ l. joined (Ok h.put) (each l)) (sym (drop_all i xs le))
    ∙ h.rest in
    subst (λ w. Puts has_taken (Ok u) old now w) all
    (λ purpose m has. subst (has_taken now purpose) (ap (λ l. m ++ l) (sym (append-nil h.put))) (h.taken purpose m has))
