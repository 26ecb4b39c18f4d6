-- Fields are read exactly where they stand.
use Rattle.std.proofs.Common.{◌≡◌, ℕ, zero, suc, ◌+◌, ◌-◌, ◌≤◌, ◌<◌, false, leb, List, [], ◌∷◌, length, Option, Some}
use Rattle.std.proofs.Common.{None, Result, Ok, refl, sym, ap, subst, ◌∙◌, arith, inl, inr}
use Rattle.std.specs.Prelude.{slice_range}
use Rattle.std.specs.Int.{w8}
use Rattle.std.proofs.lemmas.Bool.{le-leb, lt-leb}
use Rattle.std.proofs.lemmas.Bool.Decides.{leb_tells}
use Rattle.dns_wire.specs.declared.error.DecodeError.{DecodeError}
use Rattle.dns_wire.specs.Reading.{◌>>=◌, octets_at, number_at, time_at, counted_at, CountedAt}
use Rattle.dns_names.specs.Places.{name_at}
use Rattle.dns_names.proofs.PlaceLaws.{name_at_sound, name_at_complete}
use Rattle.dns_grammar.specs.Fields.{width, Kind, Number, Time, Fixed, Counted, Strings, Rest, LoweredName, KeptName, Value}
use Rattle.dns_grammar.specs.Fields.{Num, Str, Strs, Named, Field, StringsAt, ValueAt, FieldsAt, strings_at, value_at}
use Rattle.dns_grammar.specs.Fields.{no_fault, fields_at}
use Rattle.dns_wire.proofs.FieldLaws.{is_ok_same, bind_ok, octets_stand, octets_read, number_stands, number_read}
use Rattle.dns_wire.proofs.FieldLaws.{time_stands, time_read, counted_stands, counted_read}

-- ---- strings

pub strings_end : (most : ℕ) (m : List ℕ) (p e : ℕ) → e ≤ p → strings_at most m p e ≡ Ok ([], p)
unfolding strings_at
strings_end zero m p e le = refl
strings_end (suc most) m p e le = rw (le-leb e p le) refl

-- one string, and those behind it
abbrev pub more_strings : ℕ → List ℕ → ℕ → ℕ → Result (List (List ℕ) × ℕ) DecodeError
more_strings most m p e = do
  string ← counted_at w8 m p e
  strings ← strings_at most m string.1 e
  Ok (string.0 ∷ strings.0, strings.1)

pub strings_more : (most : ℕ) (m : List ℕ) (p e : ℕ) → p < e → strings_at (suc most) m p e ≡ more_strings most m p e
unfolding strings_at
strings_more most m p e lt = let test : leb e p ≡ false = lt-leb _ _ lt in rw test refl

-- a string has its count at least
pub counted_forward : (m : List ℕ) (p e : ℕ) (x : List ℕ) (q : ℕ) → CountedAt w8 m p e x q → p < q
counted_forward m p e x q s = let count = s.2.1 in omega (arith, count.end, s.3.end)

strings_stand_at_end : (most : ℕ) (m : List ℕ) (p e : ℕ) (strings : List (List ℕ)) (q : ℕ) → e ≤ p
    → strings_at most m p e ≡ Ok (strings, q) → StringsAt m p e strings q
strings_stand_at_end most m p e strings q le h =
    subst (λ (y : List (List ℕ) × ℕ). StringsAt m p e y.0 y.1)
    (is_ok_same ([], p) (strings, q) (sym (strings_end most m p e le) ∙ h)) (le, refl)

strings_stand : (most : ℕ) (m : List ℕ) (p e : ℕ) (strings : List (List ℕ)) (q : ℕ) → e ≤ length m → e ≤ p + most
    → strings_at most m p e ≡ Ok (strings, q) → StringsAt m p e strings q
strings_stand zero m p e strings q within enough h = strings_stand_at_end zero m p e strings q (omega arith) h
strings_stand (suc most) m p e strings q within enough h =
    elim (leb_tells e p) [
      | inl t ↦ strings_stand_at_end (suc most) m p e strings q t.1 h
      | inr t ↦
          let s = bind_ok (counted_at w8 m p e) _ (strings, q) (sym (strings_more most m p e t.1) ∙ h) in
          let rest = bind_ok (strings_at most m s.0.1 e) _ (strings, q) s.2 in
          let first = counted_stands w8 m p e s.0.0 s.0.1 within s.1 in
          let forward : p < s.0.1 = counted_forward m p e s.0.0 s.0.1 first in
          subst (λ (y : List (List ℕ) × ℕ). StringsAt m p e y.0 y.1)
          (is_ok_same (s.0.0 ∷ rest.0.0, rest.0.1) (strings, q) rest.2) (
            t.1,
            (
              s.0.1,
              first,
              strings_stand most m s.0.1 e rest.0.0 rest.0.1 within
                  (omega (arith, forward, enough)) rest.1,
            ),
          )
    ]

strings_read : (most : ℕ) (m : List ℕ) (p e : ℕ) (strings : List (List ℕ)) (q : ℕ) → e ≤ p + most
    → StringsAt m p e strings q → strings_at most m p e ≡ Ok (strings, q)
strings_read most m p e [] q enough s = strings_end most m p e s.0
    ∙ ap (λ k. let ok : Result (List (List ℕ) × ℕ) DecodeError = Ok ([], k) in ok) (sym s.1)
strings_read zero m p e (x ∷ xs) q enough s = absurd (omega (arith, s.0, enough))
strings_read (suc most) m p e (x ∷ xs) q enough s =
    let forward : p < s.1.0 = counted_forward m p e x s.1.0 s.1.1 in
    strings_more most m p e s.0 ∙ rw (
      counted_read w8 m p e x s.1.0 s.1.1,
      strings_read most m s.1.0 e xs q
          (omega (arith, forward, enough)) s.1.2,
    ) refl

-- ---- a value of any kind

-- a value made of one that is read
abbrev made : {A : Type 0} → (A → Value) → A × ℕ → Result (Value × ℕ) DecodeError
made f x = Ok (f x.0, x.1)

pub made_ok : {A : Type 0} (r : Result (A × ℕ) DecodeError) (f : A → Value) (v : Value) (q : ℕ)
    → (r >>= made f) ≡ Ok (v, q) → (x : A) × (r ≡ Ok (x, q)) × (f x ≡ v)
made_ok r f v q h =
    let b = bind_ok r (made f) (v, q) h in
    let same = is_ok_same (f b.0.0, b.0.1) (v, q) b.2 in
    (b.0.0, b.1 ∙ ap (λ (k : ℕ). Ok (b.0.0, k)) (ap (λ (y : Value × ℕ). y.1) same), ap (λ (y : Value × ℕ). y.0) same)

value_stands : (k : Kind) (m : List ℕ) (p e : ℕ) (v : Value) (q : ℕ) → e ≤ length m → value_at k m p e ≡ Ok (v, q)
    → ValueAt k m p e v q
value_stands (Number size) m p e v q within h = let b = made_ok (number_at (width size) m p e)
    (λ n. Num n) v q h in subst (λ z. ValueAt (Number size) m p e z q) b.2
    (number_stands (width size) m p e b.0 q within b.1)
value_stands Time m p e v q within h = let b = made_ok (time_at m p e) (λ n. Num n) v q h in subst
    (λ z. ValueAt Time m p e z q) b.2 (time_stands m p e b.0 q within b.1)
value_stands (Fixed n) m p e v q within h = let b = made_ok (octets_at n m p e) (λ x. Str x) v q h in subst
    (λ z. ValueAt (Fixed n) m p e z q) b.2 (octets_stand n m p e b.0 q within b.1)
value_stands (Counted size cause) m p e v q within h = let b = made_ok (counted_at (width size) m p e)
    (λ x. Str x) v q h in subst (λ z. ValueAt (Counted size cause) m p e z q) b.2
    (counted_stands (width size) m p e b.0 q within b.1)
value_stands Strings m p e v q within h = let b = made_ok (strings_at (e - p) m p e) (λ x. Strs x) v q h in subst
    (λ z. ValueAt Strings m p e z q) b.2 (strings_stand (e - p) m p e b.0 q within (omega arith) b.1)
value_stands Rest m p e v q within h =
    let same = is_ok_same (Str (slice_range m p e), e) (v, q) h in
    subst (λ (y : Value × ℕ). ValueAt Rest m p e y.0 y.1) same (refl, refl)
value_stands LoweredName m p e v q within h = let b = made_ok (name_at m p e) (λ n. Named n) v q h in subst
    (λ z. ValueAt LoweredName m p e z q) b.2 (name_at_sound m p e b.0 q within b.1)
value_stands KeptName m p e v q within h = let b = made_ok (name_at m p e) (λ n. Named n) v q h in subst
    (λ z. ValueAt KeptName m p e z q) b.2 (name_at_sound m p e b.0 q within b.1)

value_read : (k : Kind) (m : List ℕ) (p e : ℕ) (v : Value) (q : ℕ) → ValueAt k m p e v q → value_at k m p e ≡ Ok (v, q)
value_read (Number size) m p e (Num n) q s = rw (number_read (width size) m p e n q s) refl
value_read Time m p e (Num n) q s = rw (time_read m p e n q s) refl
value_read (Fixed n) m p e (Str x) q s = rw (octets_read n m p e x q s) refl
value_read (Counted size cause) m p e (Str x) q s = rw (counted_read (width size) m p e x q s) refl
value_read Strings m p e (Strs x) q s = rw (strings_read (e - p) m p e x q (omega arith) s) refl
value_read Rest m p e (Str x) q s = rw (s.0, s.1) refl
value_read LoweredName m p e (Named n) q s = rw (name_at_complete m p e n q s) refl
value_read KeptName m p e (Named n) q s = rw (name_at_complete m p e n q s) refl
value_read _ m p e _ q s = absurd s

-- ---- fields one behind the other

pub test_passed : (t : Option DecodeError) (u : Unit {0}) → no_fault t ≡ Ok u → t ≡ None
test_passed None u h = refl
test_passed (Some d) u h = absurd cc

pub fields_stand : (fs : List Field) (m : List ℕ) (p e : ℕ) (vs : List Value) (q : ℕ) → e ≤ length m
    → fields_at fs m p e ≡ Ok (vs, q) → FieldsAt fs m p e vs q
fields_stand [] m p e vs q within h = subst (λ (y : List Value × ℕ). FieldsAt [] m p e y.0 y.1)
    (is_ok_same ([], p) (vs, q) h) refl
fields_stand (f ∷ fs) m p e vs q within h =
    let v = bind_ok (value_at f.kind m p e) _ (vs, q) h in
    let t = bind_ok (no_fault (f.fault v.0.0)) _ (vs, q) v.2 in
    let rest = bind_ok (fields_at fs m v.0.1 e) _ (vs, q) t.2 in
    subst (λ (y : List Value × ℕ). FieldsAt (f ∷ fs) m p e y.0 y.1)
    (is_ok_same (v.0.0 ∷ rest.0.0, rest.0.1) (vs, q) rest.2) (
      v.0.1,
      value_stands f.kind m p e v.0.0 v.0.1 within v.1,
      test_passed
          (f.fault v.0.0) t.0 t.1,
      fields_stand fs m v.0.1 e rest.0.0 rest.0.1 within rest.1,
    )

pub fields_read : (fs : List Field) (m : List ℕ) (p e : ℕ) (vs : List Value) (q : ℕ) → FieldsAt fs m p e vs q
    → fields_at fs m p e ≡ Ok (vs, q)
fields_read [] m p e [] q s = rw s refl
fields_read (f ∷ fs) m p e (v ∷ vs) q s = rw (value_read f.kind m p e v s.0 s.1, s.2, fields_read fs m s.0 e vs q s.3)
    refl
fields_read [] m p e (v ∷ vs) q s = absurd s
fields_read (f ∷ fs) m p e [] q s = absurd s
