-- Fields are read where they stand.
use Rattle.std.proofs.Common.{◌≡◌, Bool, true, false, cond, leb, ℕ, ◌+◌, ◌≤◌, List, length, take, drop, Result, Ok, Err}
use Rattle.std.proofs.Common.{refl, sym, ap, subst, arith}
use Rattle.std.specs.Int.{Width, byte_len, from_be_bytes}
use Rattle.std.proofs.lemmas.Bool.{le-leb, leb-true}
use Rattle.dns_wire.specs.declared.error.DecodeError.{DecodeError}
use Rattle.dns_wire.specs.declared.error.DecodeError.TheVariants.{InsufficientBytes}
use Rattle.dns_wire.specs.Reading.{◌>>=◌, octets_at, number_at, time_at, counted_at, OctetsAt, NumberAt, TimeAt}
use Rattle.dns_wire.specs.Reading.{CountedAt}

abbrev done : {A : Type 0} → A → Result A DecodeError
done x = Ok x

pub is_ok_same : {A : Type 0} (x y : A) → done x ≡ done y → x ≡ y
is_ok_same x y e = cc

-- the value of a step that did not fail
pub bind_ok : {A B : Type 0} (r : Result A DecodeError) (f : A → Result B DecodeError) (y : B) → (r >>= f) ≡ Ok y
    → (x : A) × (r ≡ Ok x) × (f x ≡ Ok y)
bind_ok (Ok x) f y e = (x, refl, e)
bind_ok (Err d) f y e = absurd cc

-- a test that was passed
pub passed : {A : Type 0} (b : Bool) (d : DecodeError) (x y : A) → cond b (Ok x) (Err d) ≡ Ok y → (b ≡ true) × (x ≡ y)
passed true d x y e = (refl, cc)
passed false d x y e = absurd cc

pub octets_stand : (n : ℕ) (m : List ℕ) (p e : ℕ) (x : List ℕ) (q : ℕ) → e ≤ length m → octets_at n m p e ≡ Ok (x, q)
    → OctetsAt n m p e x q
unfolding octets_at
octets_stand n m p e x q within h =
    let t = passed (leb (p + n) e) InsufficientBytes (take n (drop p m), p + n) (x, q) h in
    let le : p + n ≤ e = leb-true _ _ t.0 in
    let end : p + n ≡ q = ap (λ (y : List ℕ × ℕ). y.1) t.1 in
    record { within = within; end = sym end; inside = omega arith; value = sym (ap (λ (y : List ℕ × ℕ). y.0) t.1) }

pub octets_read : (n : ℕ) (m : List ℕ) (p e : ℕ) (x : List ℕ) (q : ℕ) → OctetsAt n m p e x q
    → octets_at n m p e ≡ Ok (x, q)
unfolding octets_at
octets_read n m p e x q s =
    let le : p + n ≤ e = omega (arith, s.end, s.inside) in
    rw (le-leb (p + n) e le, s.value, s.end) refl

pub number_stands : (w : Width) (m : List ℕ) (p e n q : ℕ) → e ≤ length m → number_at w m p e ≡ Ok (n, q)
    → NumberAt w m p e n q
unfolding number_at
number_stands w m p e n q within h =
    let b = bind_ok (octets_at (byte_len w) m p e) _ (n, q) h in
    let same = is_ok_same (from_be_bytes w b.0.0, b.0.1) (n, q) b.2 in
    let end = ap (λ (y : ℕ × ℕ). y.1) same in (
      b.0.0,
      subst (λ k. OctetsAt (byte_len w) m p e b.0.0 k) end
          (octets_stand (byte_len w) m p e b.0.0 b.0.1 within b.1),
      sym (ap (λ (y : ℕ × ℕ). y.0) same),
    )

pub number_read : (w : Width) (m : List ℕ) (p e n q : ℕ) → NumberAt w m p e n q → number_at w m p e ≡ Ok (n, q)
unfolding number_at
number_read w m p e n q s = rw (octets_read (byte_len w) m p e s.0 q s.1, s.2) refl

pub time_stands : (m : List ℕ) (p e n q : ℕ) → e ≤ length m → time_at m p e ≡ Ok (n, q) → TimeAt m p e n q
unfolding time_at
time_stands m p e n q within h =
    let b = bind_ok (octets_at 6 m p e) _ (n, q) h in
    let same = is_ok_same _ (n, q) b.2 in
    let end = ap (λ (y : ℕ × ℕ). y.1) same in (
      b.0.0,
      subst (λ k. OctetsAt 6 m p e b.0.0 k) end (octets_stand 6 m p e b.0.0 b.0.1 within b.1),
      sym
          (ap (λ (y : ℕ × ℕ). y.0) same),
    )

pub time_read : (m : List ℕ) (p e n q : ℕ) → TimeAt m p e n q → time_at m p e ≡ Ok (n, q)
unfolding time_at
time_read m p e n q s = rw (octets_read 6 m p e s.0 q s.1, s.2) refl

pub counted_stands : (w : Width) (m : List ℕ) (p e : ℕ) (x : List ℕ) (q : ℕ) → e ≤ length m
    → counted_at w m p e ≡ Ok (x, q) → CountedAt w m p e x q
unfolding counted_at
counted_stands w m p e x q within h =
    let b = bind_ok (number_at w m p e) _ (x, q) h in
    (b.0.0, b.0.1, number_stands w m p e b.0.0 b.0.1 within b.1, octets_stand b.0.0 m b.0.1 e x q within b.2)

pub counted_read : (w : Width) (m : List ℕ) (p e : ℕ) (x : List ℕ) (q : ℕ) → CountedAt w m p e x q
    → counted_at w m p e ≡ Ok (x, q)
unfolding counted_at
counted_read w m p e x q s = rw (number_read w m p e s.0 s.1 s.2, octets_read s.0 m s.1 e x q s.3) refl
