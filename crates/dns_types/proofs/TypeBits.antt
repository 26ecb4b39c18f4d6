-- Bits of octets, and numbers in order.
use Rattle.std.proofs.Common.{◌≡◌, ℕ, zero, suc, ◌+◌, ◌-◌, ◌*◌, ◌/◌, ◌%◌, ◌^◌, ◌<◌, ◌≤◌, Bool, true, false, cond, inl}
use Rattle.std.proofs.Common.{inr, ◌||◌, ◌&&◌, ◌≢◌, List, ◌∷◌, ◌++◌, length, get_or, map, max, bit_or, refl, sym, ap}
use Rattle.std.proofs.Common.{◌∙◌, arith}
use Rattle.std.specs.Prelude.{◌==◌, nat_eq, filter}
use Rattle.std.proofs.Math.Bool.{or-false}
use Rattle.std.proofs.Math.ListN.{set}
use Rattle.std.specs.Int.{bit_at}
use Rattle.std.specs.Int.Bits.{or_zero_r}
use Rattle.std.specs.List.{range_with_len, flat_map}
use Rattle.std.proofs.lemmas.Bool.{cases_lt, cases_eq}
use Rattle.std.proofs.lemmas.Bool.Decides.{nat_tests}
use Rattle.std.proofs.lemmas.List.{get_or_past, get_or-set_same, get_or-set_other}
use Rattle.std.proofs.lemmas.Nat.Bits.{bit_at-zero, bit_at-lt, bit_at_or, bit_at-pow_same, bit_at-pow_other}
use Rattle.std.proofs.lemmas.Nat.Bits.{same_from_bits_below}
use Rattle.dns_types.specs.TypeSets.{has_type_bit, octet_of}

-- ---- numbers in order

pub range_split : (a m n : ℕ) → range_with_len a (m + n) ≡ range_with_len a m ++ range_with_len (a + m) n
range_split a zero n =
    let none : zero + n ≡ n = omega arith in
    let here : a ≡ a + zero = omega arith in
    ap (range_with_len a) none ∙ ap (λ k. range_with_len k n) here
range_split a (suc m) n =
    let more : suc m + n ≡ suc (m + n) = omega arith in
    let on : a + 1 + m ≡ a + suc m = omega arith in
    ap (range_with_len a) more ∙ ap (λ (xs : List ℕ). a ∷ xs)
    (range_split (a + 1) m n ∙ ap (λ k. range_with_len (a + 1) m ++ range_with_len k n) on)

module _ (p q : ℕ → Bool) where
  pub filter_agree_within : (a n : ℕ) → ((t : ℕ) → a ≤ t → t < a + n → p t ≡ q t)
      → filter p (range_with_len a n) ≡ filter q (range_with_len a n)
  filter_agree_within a zero same = refl
  filter_agree_within a (suc n) same =
      let first : p a ≡ q a = same a (omega arith) (omega arith) in
      let behind : filter p (range_with_len (a + 1) n)
      ≡ filter q (range_with_len (a + 1) n) = filter_agree_within (a + 1) n
      (λ t h k. same t (omega arith) (omega arith)) in
      λ i. cond (first i) (a ∷ behind i) (behind i)

module _ {X : Type 0} (f g : ℕ → List X) where
  pub flat_map_agree_within : (a n : ℕ) → ((t : ℕ) → a ≤ t → t < a + n → f t ≡ g t)
      → flat_map f (range_with_len a n) ≡ flat_map g (range_with_len a n)
  flat_map_agree_within a zero same = refl
  flat_map_agree_within a (suc n) same =
      let first : f a ≡ g a = same a (omega arith) (omega arith) in
      let behind : flat_map f (range_with_len (a + 1) n)
      ≡ flat_map g (range_with_len (a + 1) n) = flat_map_agree_within (a + 1) n
      (λ t h k. same t (omega arith) (omega arith)) in
      λ i. first i ++ behind i

module _ {X : Type 0} (f g : ℕ → X) where
  pub map_agree_within : (a n : ℕ) → ((t : ℕ) → a ≤ t → t < a + n → f t ≡ g t)
      → map f (range_with_len a n) ≡ map g (range_with_len a n)
  map_agree_within a zero same = refl
  map_agree_within a (suc n) same =
      let first : f a ≡ g a = same a (omega arith) (omega arith) in
      let behind : map f (range_with_len (a + 1) n)
      ≡ map g (range_with_len (a + 1) n) = map_agree_within (a + 1) n (λ t h k. same t (omega arith) (omega arith))
      in
      λ i. first i ∷ behind i

-- ---- bits

-- bits behind the octets are those of zero octets
pub has_bit_at : (bits : List ℕ) (n : ℕ) → has_type_bit bits n ≡ (bit_at (get_or bits (n / 8) 0) (7 - n % 8) == 1)
has_bit_at bits n =
    elim (cases_lt (n / 8) (length bits)) [
      | inl within ↦ grind (arith, nat_tests)
      | inr past ↦ (let none : bit_at (get_or bits (n / 8) 0) (7 - n % 8)
          ≡ 0 = ap (λ k. bit_at k (7 - n % 8)) (get_or_past bits (n / 8) 0 past)
          ∙ bit_at-zero (7 - n % 8) in grind (arith, nat_tests))
    ]

one_or_none : Bool → ℕ
one_or_none b = cond b 1 0

weighed : (b : Bool) (k : ℕ) → cond b k 0 ≡ k * one_or_none b
unfolding one_or_none
weighed true k = omega arith
weighed false k = omega arith

few : (b : Bool) → one_or_none b ≤ 1
unfolding one_or_none
few true = omega arith
few false = omega arith

is_one : (b : Bool) → (one_or_none b == 1) ≡ b
unfolding one_or_none
is_one true = refl
is_one false = refl

module _ (has : ℕ → Bool) (t : ℕ) where
  x : ℕ → ℕ
  x b = one_or_none (has (t + b))

  small : (b : ℕ) → x b ≤ 1
  unfolding x
  small b = few (has (t + b))

  sum_is : octet_of has t ≡ 128 * x 0 + 64 * x 1 + 32 * x 2 + 16 * x 3 + 8 * x 4 + 4 * x 5 + 2 * x 6 + x 7
  unfolding octet_of x
  sum_is = omega (
    arith,
    weighed (has (t + 0)) 128,
    weighed (has (t + 1)) 64,
    weighed (has (t + 2)) 32,
    weighed
        (has (t + 3)) 16,
    weighed (has (t + 4)) 8,
    weighed (has (t + 5)) 4,
    weighed (has (t + 6)) 2,
    weighed
        (has (t + 7)) 1,
  )

  pub octet_small : octet_of has t < 256
  octet_small = omega (arith, sum_is, small)

  bit_is : (b : ℕ) → b < 8 → bit_at (octet_of has t) (7 - b) ≡ x b
  bit_is zero h = omega (arith, sum_is, small)
  bit_is (suc zero) h = omega (arith, sum_is, small)
  bit_is (suc (suc zero)) h = omega (arith, sum_is, small)
  bit_is (suc (suc (suc zero))) h = omega (arith, sum_is, small)
  bit_is (suc (suc (suc (suc zero)))) h = omega (arith, sum_is, small)
  bit_is (suc (suc (suc (suc (suc zero))))) h = omega (arith, sum_is, small)
  bit_is (suc (suc (suc (suc (suc (suc zero)))))) h = omega (arith, sum_is, small)
  bit_is (suc (suc (suc (suc (suc (suc (suc zero))))))) h = omega (arith, sum_is, small)
  bit_is (suc (suc (suc (suc (suc (suc (suc (suc b)))))))) h = absurd (omega arith)

  -- the bits of an octet say which of its types there are
  pub octet_bit : (b : ℕ) → b < 8 → (bit_at (octet_of has t) (7 - b) == 1) ≡ has (t + b)
  unfolding x
  octet_bit b h = ap (λ k. k == 1) (bit_is b h) ∙ is_one (has (t + b))

-- ---- bits that are added

either_bit : (a b : ℕ) → a < 2 → b < 2 → (max a b == 1) ≡ ((a == 1) || (b == 1))
either_bit a b few small = grind (arith, nat_tests)

-- the bits of octets that were joined
or_bits : (a b i : ℕ) → (bit_at (bit_or a b) i == 1) ≡ ((bit_at a i == 1) || (bit_at b i == 1))
or_bits a b i = ap (λ k. k == 1) (bit_at_or a b i)
    ∙ either_bit (bit_at a i) (bit_at b i) (bit_at-lt a i) (bit_at-lt b i)

-- the mask of a bit that is counted from the highest
mask_is : (r : ℕ) → r < 8 → 128 / 2 ^ r ≡ 2 ^ (7 - r)
mask_is zero h = refl
mask_is (suc zero) h = refl
mask_is (suc (suc zero)) h = refl
mask_is (suc (suc (suc zero))) h = refl
mask_is (suc (suc (suc (suc zero)))) h = refl
mask_is (suc (suc (suc (suc (suc zero))))) h = refl
mask_is (suc (suc (suc (suc (suc (suc zero)))))) h = refl
mask_is (suc (suc (suc (suc (suc (suc (suc zero))))))) h = refl
mask_is (suc (suc (suc (suc (suc (suc (suc (suc r)))))))) h = absurd (omega arith)

mask_bit : (r s : ℕ) → r < 8 → s < 8 → (bit_at (128 / 2 ^ r) (7 - s) == 1) ≡ nat_eq s r
mask_bit r s few small =
    elim (cases_eq s r) [
      | inl same ↦ (let on : bit_at (128 / 2 ^ r) (7 - s) ≡ 1 = (λ i. bit_at (mask_is r few i) (7 - same i))
          ∙ bit_at-pow_same (7 - r) in
          let here : nat_eq s r ≡ true = grind (arith, nat_tests) in
          ap (λ k. k == 1) on ∙ sym here)
      | inr other ↦ (let apart : 7 - s ≢ 7 - r = omega arith in
          let off : bit_at (128 / 2 ^ r) (7 - s) ≡ 0 = ap (λ k. bit_at k (7 - s)) (mask_is r few)
          ∙ bit_at-pow_other (7 - r) (7 - s) apart in
          let away : nat_eq s r ≡ false = grind (arith, nat_tests) in
          ap (λ k. k == 1) off ∙ sym away)
    ]

-- a bit that is set
pub bit_set : (bits : List ℕ) (t n : ℕ) → t / 8 < length bits
    → has_type_bit (set bits (t / 8) (bit_or (get_or bits (t / 8) 0) (128 / 2 ^ (t % 8)))) n
    ≡ (has_type_bit bits n || nat_eq n t)
bit_set bits t n within =
    let octet : ℕ = bit_or (get_or bits (t / 8) 0) (128 / 2 ^ (t % 8)) in
    has_bit_at (set bits (t / 8) octet) n ∙ elim (cases_eq (n / 8) (t / 8)) [
      | inl same ↦ (let read : get_or (set bits (t / 8) octet) (n / 8) 0
          ≡ octet = ap (λ k. get_or (set bits (t / 8) octet) k 0) same
          ∙ get_or-set_same bits (t / 8) octet 0 within in
          let was : has_type_bit bits n ≡ (bit_at (get_or bits (t / 8) 0) (7 - n % 8) == 1) = has_bit_at bits n
          ∙ ap (λ k. bit_at (get_or bits k 0) (7 - n % 8) == 1) same in
          let one : nat_eq (n % 8) (t % 8) ≡ nat_eq n t = grind (arith, nat_tests) in
          ap (λ k. bit_at k (7 - n % 8) == 1) read
          ∙ or_bits (get_or bits (t / 8) 0) (128 / 2 ^ (t % 8)) (7 - n % 8)
          ∙ (λ i. sym was i || (mask_bit (t % 8) (n % 8) (omega arith) (omega arith) ∙ one) i))
      | inr other ↦ (let read : get_or (set bits (t / 8) octet) (n / 8) 0
          ≡ get_or bits (n / 8) 0 = get_or-set_other bits (t / 8) (n / 8) octet 0 other in
          let away : nat_eq n t ≡ false = grind (arith, nat_tests) in
          ap (λ k. bit_at k (7 - n % 8) == 1) read ∙ sym (has_bit_at bits n) ∙ sym (or-false (has_type_bit bits n))
          ∙ ap (λ b. has_type_bit bits n || b) (sym away))
    ]

-- octets that were joined with those of a window
module _ (old new bits : List ℕ) (w : ℕ) (few : length bits ≤ 32)
    (before : (k : ℕ) → k < 32 * w → get_or new k 0 ≡ get_or old k 0)
    (merged : (k : ℕ) → get_or new (32 * w + k) 0 ≡ bit_or (get_or old (32 * w + k) 0) (get_or bits k 0)) where
  pub bits_merged : (n : ℕ) → has_type_bit new n
      ≡ (has_type_bit old n || (nat_eq w (n / 256) && has_type_bit bits (n % 256)))
  bits_merged n =
      elim (cases_lt (n / 256) w) [
        | inl below ↦ (let read : get_or new (n / 8) 0 ≡ get_or old (n / 8) 0 = before (n / 8) (omega arith) in
            let away : nat_eq w (n / 256) ≡ false = grind (arith, nat_tests) in
            has_bit_at new n ∙ ap (λ k. bit_at k (7 - n % 8) == 1) read ∙ sym (has_bit_at old n)
            ∙ rw away (sym (or-false (has_type_bit old n))))
        | inr from ↦ (let k : ℕ = n / 8 - 32 * w in
            let place : n / 8 ≡ 32 * w + k = omega arith in
            let read : get_or new (n / 8) 0 ≡ bit_or (get_or old (n / 8) 0) (get_or bits k 0) = ap
            (λ j. get_or new j 0) place ∙ merged k ∙ ap (λ j. bit_or (get_or old j 0) (get_or bits k 0))
            (sym place) in
            has_bit_at new n ∙ ap (λ j. bit_at j (7 - n % 8) == 1) read
            ∙ or_bits (get_or old (n / 8) 0) (get_or bits k 0) (7 - n % 8)
            ∙ (λ i. sym (has_bit_at old n) i || added k place from i))
      ]
    where
      added : (k : ℕ) → n / 8 ≡ 32 * w + k → w ≤ n / 256
          → (bit_at (get_or bits k 0) (7 - n % 8) == 1) ≡ (nat_eq w (n / 256) && has_type_bit bits (n % 256))
      added k place from =
          elim (cases_eq w (n / 256)) [
            | inl same ↦ (let here : nat_eq w (n / 256) ≡ true = grind (arith, nat_tests) in
                let low : k ≡ n % 256 / 8 = omega arith in
                let bit : n % 8 ≡ n % 256 % 8 = omega arith in
                (λ i. bit_at (get_or bits (low i) 0) (7 - bit i) == 1) ∙ sym (has_bit_at bits (n % 256)) ∙ rw here refl)
            | inr other ↦ (let away : nat_eq w (n / 256) ≡ false = grind (arith, nat_tests) in
                let past : length bits ≤ k = omega arith in
                ap (λ j. bit_at j (7 - n % 8) == 1) (get_or_past bits k 0 past)
                ∙ ap (λ j. j == 1) (bit_at-zero (7 - n % 8)) ∙ rw away refl)
          ]

-- an octet is made of its bits
pub octet_of_bits : (bits : List ℕ) (k : ℕ) → get_or bits k 0 < 2 ^ 8
    → octet_of (has_type_bit bits) (8 * k) ≡ get_or bits k 0
octet_of_bits bits k small = same_from_bits_below 8 (octet_of (has_type_bit bits) (8 * k)) (get_or bits k 0)
    (octet_small (has_type_bit bits) (8 * k)) small same
  where
    same_bit : (a b : ℕ) → a < 2 → b < 2 → (a == 1) ≡ (b == 1) → a ≡ b
    same_bit a b few less e = grind (arith, nat_tests)

    same : (i : ℕ) → i < 8 → bit_at (octet_of (has_type_bit bits) (8 * k)) i ≡ bit_at (get_or bits k 0) i
    same i below =
        let b : ℕ = 7 - i in
        let back : i ≡ 7 - b = omega arith in
        let octet : (8 * k + b) / 8 ≡ k = omega arith in
        let bit : 7 - (8 * k + b) % 8 ≡ i = omega arith in
        same_bit (bit_at (octet_of (has_type_bit bits) (8 * k)) i) (bit_at (get_or bits k 0) i)
        (bit_at-lt (octet_of (has_type_bit bits) (8 * k)) i) (bit_at-lt (get_or bits k 0) i)
        (ap (λ j. bit_at (octet_of (has_type_bit bits) (8 * k)) j == 1) back
        ∙ octet_bit (has_type_bit bits) (8 * k) b (omega arith) ∙ has_bit_at bits (8 * k + b)
        ∙ (λ j. bit_at (get_or bits (octet j) 0) (bit j) == 1))

-- a bit that is set behind room that was made
pub bit_set_after : (old room : List ℕ) (t n : ℕ) → ((k : ℕ) → has_type_bit room k ≡ has_type_bit old k)
    → t / 8 < length room → has_type_bit (set room (t / 8) (bit_or (get_or room (t / 8) 0) (128 / 2 ^ (t % 8)))) n
    ≡ (has_type_bit old n || nat_eq n t)
bit_set_after old room t n same within = bit_set room t n within ∙ ap (λ b. b || nat_eq n t) (same n)

pub bits_merged_after : (old room new bits : List ℕ) (w : ℕ) → length bits ≤ 32
    → ((k : ℕ) → has_type_bit room k ≡ has_type_bit old k) → ((k : ℕ) → k < 32 * w → get_or new k 0 ≡ get_or room k 0)
    → ((k : ℕ) → get_or new (32 * w + k) 0 ≡ bit_or (get_or room (32 * w + k) 0) (get_or bits k 0)) → (n : ℕ)
    → has_type_bit new n ≡ (has_type_bit old n || (nat_eq w (n / 256) && has_type_bit bits (n % 256)))
bits_merged_after old room new bits w few same before merged n = bits_merged room new bits w few before merged n
    ∙ ap (λ b. b || (nat_eq w (n / 256) && has_type_bit bits (n % 256))) (same n)

-- octets that are joined with none stay
pub or_past : (a : ℕ) (bits : List ℕ) (k : ℕ) → length bits ≤ k → bit_or a (get_or bits k 0) ≡ a
or_past a bits k past = ap (bit_or a) (get_or_past bits k 0 past) ∙ or_zero_r a
