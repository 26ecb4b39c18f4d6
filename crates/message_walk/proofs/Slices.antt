-- What is written of a value that was read, but for a name, is the octets that it was read of.
use Rattle.std.proofs.Common.{◌≡◌, ℕ, zero, suc, ◌+◌, ◌-◌, ◌*◌, ◌/◌, ◌%◌, ◌^◌, ◌≤◌, ◌<◌, true, List, [], ◌∷◌}
use Rattle.std.proofs.Common.{◌++◌, length, take, drop, get_or, ltb, Result, Ok, refl, sym, ap, subst, ◌∙◌, arith}
use Rattle.std.proofs.lemmas.List.{length-take, length-drop, take-append-drop}
use Rattle.std.proofs.lemmas.Bool.{lt-ltb}
use Rattle.std.proofs.lemmas.Nat.{be_bytes_2, be_bytes_4}
use Rattle.std.specs.Prelude.{slice_range}
use Rattle.std.specs.Int.{w16, w32, byte_len, to_be_bytes, from_be_bytes}
use Rattle.dns_wire.specs.declared.error.EmitError.{EmitError}
use Rattle.dns_wire.specs.declared.error.EmitError.TheVariants.{StringTooLong}
use Rattle.dns_wire.specs.Reading.{OctetsAt, NumberAt, CountedAt}
use Rattle.dns_wire.specs.Octets.{AreOctets, six_octets}
use Rattle.dns_grammar.specs.Fields.{Size, One, Two, Four, width, limit, Kind, Number, Time, Fixed, Counted, Strings}
use Rattle.dns_grammar.specs.Fields.{Rest, LoweredName, KeptName, Value, Num, Str, Strs, StringsAt, ValueAt}
use Rattle.dns_grammar.specs.Fields.{counted_octets, strings_octets, value_octets}
use Rattle.dns_grammar.proofs.ReadAgain.{number_fits}
use Rattle.message_walk.specs.Copies.{NoName}

-- ---- octets by their index

taken : (n : ℕ) (m : List ℕ) → AreOctets m → AreOctets (take n m)
taken zero m h = tt
taken (suc n) [] h = tt
taken (suc n) (x ∷ m) h = (h.0, taken n m h.1)

dropped : (n : ℕ) (m : List ℕ) → AreOctets m → AreOctets (drop n m)
dropped zero m h = h
dropped (suc n) [] h = tt
dropped (suc n) (x ∷ m) h = dropped n m h.1

at_index : (m : List ℕ) → AreOctets m → (k : ℕ) → get_or m k 0 < 256
at_index [] h zero = omega arith
at_index [] h (suc k) = omega arith
at_index (x ∷ m) h zero = h.0
at_index (x ∷ m) h (suc k) = at_index m h.1 k

-- ---- two slices side by side

take_both : (a b k : ℕ) (m : List ℕ) → a + b ≡ k → take a m ++ take b (drop a m) ≡ take k m
take_both zero b k m e = ap (λ n. take n m) (let same : b ≡ k = omega arith in same)
take_both (suc a) b zero m e = absurd (omega arith)
take_both (suc a) zero (suc k) [] e = refl
take_both (suc a) (suc b) (suc k) [] e = refl
take_both (suc a) b (suc k) (x ∷ m) e = ap (λ l. x ∷ l) (take_both a b k m (omega arith))

drop_both : (a b k : ℕ) (m : List ℕ) → b + a ≡ k → drop a (drop b m) ≡ drop k m
drop_both a zero k m e = ap (λ n. drop n m) (let same : a ≡ k = omega arith in same)
drop_both a (suc b) zero m e = absurd (omega arith)
drop_both zero (suc b) (suc k) [] e = refl
drop_both (suc a) (suc b) (suc k) [] e = refl
drop_both a (suc b) (suc k) (x ∷ m) e = drop_both a b k m (omega arith)

pub slices_join : (m : List ℕ) (p r q : ℕ) → p ≤ r → r ≤ q
    → slice_range m p r ++ slice_range m r q ≡ slice_range m p q
slices_join m p r q le ge =
    ap (λ l. slice_range m p r ++ take (q - r) l) (sym (drop_both (r - p) p r m (omega arith)))
    ∙ take_both (r - p) (q - r) (q - p) (drop p m) (omega arith)

-- ---- numbers

octets_slice : (n : ℕ) (m : List ℕ) (p e : ℕ) (x : List ℕ) (q : ℕ) → OctetsAt n m p e x q → x ≡ slice_range m p q
octets_slice n m p e x q s =
    let end : q ≡ p + n = s.end in
    s.value ∙ ap (λ k. take k (drop p m)) (omega arith)

octets_len : (n : ℕ) (m : List ℕ) (p e : ℕ) (x : List ℕ) (q : ℕ) → OctetsAt n m p e x q → length x ≡ n
octets_len n m p e x q s =
    ap (λ (l : List ℕ). length l) s.value ∙ omega (
      arith,
      length-take n
          (drop p m),
      length-drop p m,
      s.end,
      s.inside,
      s.within,
    )

octets_are : (n : ℕ) (m : List ℕ) (p e : ℕ) (x : List ℕ) (q : ℕ) → AreOctets m → OctetsAt n m p e x q → AreOctets x
octets_are n m p e x q octets s = subst AreOctets (sym s.value) (taken n (drop p m) (dropped p m octets))

-- a number in as many octets as it was read of
bytes_again : (size : Size) (x : List ℕ) (n : ℕ) → length x ≡ byte_len (width size) → AreOctets x
    → n ≡ from_be_bytes (width size) x → to_be_bytes (width size) n ≡ x
bytes_again One [] n len are is = absurd (omega (arith, len))
bytes_again One (x ∷ []) n len are is =
    let small : x < 256 = are.0 in
    let same : n % 256 ≡ x = grind arith in
    ap (λ k. k ∷ []) same
bytes_again One (x ∷ y ∷ ys) n len are is = absurd (omega (arith, len))
bytes_again Two x n len are is = be_bytes_2 x n len (at_index x are) is
bytes_again Four x n len are is = be_bytes_4 x n len (at_index x are) is

number_slice : (size : Size) (m : List ℕ) (p e n q : ℕ) → AreOctets m → NumberAt (width size) m p e n q
    → to_be_bytes (width size) n ≡ slice_range m p q
number_slice size m p e n q octets s =
    bytes_again size s.0 n (octets_len _ m p e s.0 q s.1) (octets_are _ m p e s.0 q octets s.1) s.2
    ∙ octets_slice _ m p e s.0 q s.1

six_again : (x : List ℕ) (n : ℕ) → length x ≡ 6 → AreOctets x
    → n ≡ from_be_bytes w16 (take 2 x) * 2 ^ 32 + from_be_bytes w32 (drop 2 x) → (n < 2 ^ 48) × (six_octets n ≡ x)
six_again x n len are is =
    let front : List ℕ = take 2 x in
    let back : List ℕ = drop 2 x in
    let high : ℕ = from_be_bytes w16 front in
    let low : ℕ = from_be_bytes w32 back in
    let front_are : AreOctets front = taken 2 x are in
    let back_are : AreOctets back = dropped 2 x are in
    let front_len : length front ≡ 2 = omega (arith, length-take 2 x, len) in
    let back_len : length back ≡ 4 = omega (arith, length-drop 2 x, len) in
    let f = at_index front front_are in
    let b = at_index back back_are in
    let high_lt : high < 2 ^ 16 = omega (arith, f 0, f 1) in
    let low_lt : low < 2 ^ 32 = omega (arith, b 0, b 1, b 2, b 3) in
    let high_is : n / 2 ^ 32 ≡ high = quotient n high low is low_lt in
    let low_is : n % 2 ^ 32 ≡ low = rest n high low is low_lt in (
      omega (arith, high_lt, low_lt, is),
      (λ i. to_be_bytes w16 (high_is i) ++ to_be_bytes w32 (low_is i))
          ∙ (λ i. be_bytes_2 front high front_len f refl i ++ be_bytes_4 back low back_len b refl i)
          ∙ take-append-drop 2 x,
    )
  where
    quotient : (k h l : ℕ) → k ≡ h * 2 ^ 32 + l → l < 2 ^ 32 → k / 2 ^ 32 ≡ h
    quotient k h l e lt = grind arith

    rest : (k h l : ℕ) → k ≡ h * 2 ^ 32 + l → l < 2 ^ 32 → k % 2 ^ 32 ≡ l
    rest k h l e lt = grind arith

-- ---- counted octets

counted_slice : (size : Size) (too_long : EmitError) (m : List ℕ) (p e : ℕ) (x : List ℕ) (q : ℕ) → AreOctets m
    → CountedAt (width size) m p e x q → counted_octets size too_long x ≡ Ok (slice_range m p q)
counted_slice size too_long m p e x q octets s =
    let len : length x ≡ s.0 = octets_len s.0 m s.1 e x q s.3 in
    let fits : s.0 < limit size = number_fits size m p e s.0 s.1 octets s.2 in
    let test : ltb (length x) (limit size) ≡ true = lt-ltb _ _ (subst (λ k. k < limit size) (sym len) fits) in
    let count : to_be_bytes (width size) (length x) ≡ slice_range m p s.1 =
    ap (to_be_bytes (width size)) len ∙ number_slice size m p e s.0 s.1 octets s.2 in
    let behind : x ≡ slice_range m s.1 q = octets_slice s.0 m s.1 e x q s.3 in
    let ahead : p ≤ s.1 = omega (arith, s.2.1.end) in
    let more : s.1 ≤ q = omega (arith, s.3.end) in
    rw test (ap (λ (l : List ℕ). let ok : Result (List ℕ) EmitError = Ok l in ok)
    ((λ i. count i ++ behind i) ∙ slices_join m p s.1 q ahead more))

strings_forward : (m : List ℕ) (p e : ℕ) (strings : List (List ℕ)) (q : ℕ) → StringsAt m p e strings q → p ≤ q
strings_forward m p e [] q s = omega (arith, s.1)
strings_forward m p e (x ∷ xs) q s =
    let r : ℕ = s.1.0 in
    let one = s.1.1 in
    let rest = strings_forward m r e xs q s.1.2 in
    omega (arith, rest, one.2.1.end, one.3.end)

strings_slice : (m : List ℕ) (p e : ℕ) (strings : List (List ℕ)) (q : ℕ) → AreOctets m → StringsAt m p e strings q
    → strings_octets strings ≡ Ok (slice_range m p q)
strings_slice m p e [] q octets s =
    let none : 0 ≡ q - p = omega (arith, s.1) in
    ap (λ k. let ok : Result (List ℕ) EmitError = Ok (take k (drop p m)) in ok) none
strings_slice m p e (x ∷ xs) q octets s =
    let r : ℕ = s.1.0 in
    let one = s.1.1 in
    let first = counted_slice One StringTooLong m p e x r octets one in
    let rest = strings_slice m r e xs q octets s.1.2 in
    let ahead : p ≤ r = omega (arith, one.2.1.end, one.3.end) in
    rw (first, rest) (ap (λ (l : List ℕ). let ok : Result (List ℕ) EmitError = Ok l in ok)
    (slices_join m p r q ahead (strings_forward m r e xs q s.1.2)))

-- ---- values

octets_ok : (x y : List ℕ) → x ≡ y → ◌≡◌ {A = Result (List ℕ) EmitError} (Ok x) (Ok y)
octets_ok x y e = ap (λ (l : List ℕ). let ok : Result (List ℕ) EmitError = Ok l in ok) e

pub value_slice : (kind : Kind) (m : List ℕ) (p e : ℕ) (v : Value) (q : ℕ) → AreOctets m → NoName kind
    → ValueAt kind m p e v q → value_octets true kind v ≡ Ok (slice_range m p q)
value_slice (Number size) m p e (Num n) q octets other s = octets_ok _ _ (number_slice size m p e n q octets s)
value_slice Time m p e (Num n) q octets other s =
    let six = six_again s.0 n (octets_len 6 m p e s.0 q s.1) (octets_are 6 m p e s.0 q octets s.1) s.2 in
    let test : ltb n (2 ^ 48) ≡ true = lt-ltb _ _ six.0 in
    rw test (octets_ok _ _ (six.1 ∙ octets_slice 6 m p e s.0 q s.1))
value_slice (Fixed n) m p e (Str x) q octets other s = octets_ok _ _ (octets_slice n m p e x q s)
value_slice (Counted size too_long) m p e (Str x) q octets other s = counted_slice size too_long m p e x q octets s
value_slice Strings m p e (Strs strings) q octets other s = strings_slice m p e strings q octets s
value_slice Rest m p e (Str x) q octets other s = octets_ok _ _ (s.0 ∙ ap (λ k. slice_range m p k) (sym s.1))
value_slice LoweredName m p e v q octets other s = absurd other
value_slice KeptName m p e v q octets other s = absurd other
value_slice _ m p e _ q octets other s = absurd s
