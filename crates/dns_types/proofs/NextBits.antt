-- The next bit in octets.
use Rattle.std.proofs.Common.{◌≡◌, ℕ, zero, suc, ◌+◌, ◌-◌, ◌*◌, ◌/◌, ◌%◌, ◌^◌, ◌<◌, ◌≤◌, inl, inr, false, ◌&&◌, List}
use Rattle.std.proofs.Common.{length, slice_index, ap, sym, ◌∙◌, arith}
use Rattle.std.specs.Prelude.{nat_eq, nat_lt}
use Rattle.std.specs.Int.{bit_at}
use Rattle.std.specs.Int.Count.{count_leading_zeros}
use Rattle.std.proofs.lemmas.Bool.{lt-ltb, cases_lt}
use Rattle.std.proofs.lemmas.Nat.{leading_top, div-add-mod'}
use Rattle.std.proofs.Math.Nat.{pow-succ'}
use Rattle.std.proofs.lemmas.Nat.Bits.{bit_at-zero, bit_at_above, bit_at_cat_low, bit_at_cat_high}
use Rattle.dns_types.specs.TypeSets.{has_type_bit}
use Rattle.dns_types.specs.TypeWalks.{IsFirstFrom}

-- an octet shifted to the left
abbrev shifted : ℕ → ℕ → ℕ
shifted o j = o * 2 ^ j % 256

some_power : (j : ℕ) → 0 < 2 ^ j
some_power zero = omega arith
some_power (suc j) = let h : 0 < 2 ^ j = some_power j in let e : 2 ^ suc j ≡ 2 * 2 ^ j = pow-succ' 2 j in
    omega (arith, h, e)

-- the low eight bits are those of the whole
low_bit : (n i : ℕ) → i < 8 → bit_at (n % 256) i ≡ bit_at n i
low_bit n i h = sym (bit_at_cat_low (n / 256) 8 (n % 256) i h) ∙ ap (λ m. bit_at m i) (div-add-mod' n 256)

-- its bits moved
moved : (o j i : ℕ) → i < 8 → j ≤ i → bit_at (shifted o j) i ≡ bit_at o (i - j)
moved o j i small le =
    let none : o * 2 ^ j + 0 ≡ o * 2 ^ j = omega arith in
    low_bit (o * 2 ^ j) i small ∙ ap (λ m. bit_at m i) (sym none) ∙ bit_at_cat_high o j 0 i (some_power j) le

filled : (o j i : ℕ) → i < 8 → i < j → bit_at (shifted o j) i ≡ 0
filled o j i small lt =
    let none : o * 2 ^ j + 0 ≡ o * 2 ^ j = omega arith in
    low_bit (o * 2 ^ j) i small ∙ ap (λ m. bit_at m i) (sym none) ∙ bit_at_cat_low o j 0 i lt ∙ bit_at-zero i

-- the highest bit
record IsTop (s zeros : ℕ) : Type 0 where
  top : ℕ
  is : zeros + suc top ≡ 8
  set : bit_at s top ≡ 1
  others : (i : ℕ) → top < i → bit_at s i ≡ 0

highest : (s : ℕ) → 0 < s → s < 256 → IsTop s (count_leading_zeros 8 s)
highest s some small =
    let t = leading_top 8 s some small in
    let top = t.0 in
    let twice : 2 ^ suc top ≡ 2 * 2 ^ top = pow-succ' 2 top in
    let lo : 2 ^ top ≤ s = t.2 in
    let hi : s < 2 ^ suc top = t.3 in
    let rest : s - 2 ^ top < 2 ^ top = omega (arith, twice, lo, hi) in
    let whole : 1 * 2 ^ top + (s - 2 ^ top) ≡ s = omega (arith, lo) in
    let one : top - top ≡ 0 = omega arith in
    record {
      top = top;
      is = t.1;
      set = ap (λ m. bit_at m top) (sym whole) ∙ bit_at_cat_high 1 top (s - 2 ^ top) top rest (omega arith)
          ∙ ap (bit_at 1) one;
      others = λ i above. bit_at_above s (suc top) i hi (omega arith);
    }

module _ (bits : List ℕ) (bit : ℕ) (inside : bit / 8 < length bits) where
  abbrev octet : ℕ
  octet = slice_index bits (bit / 8)

  -- a bit of the octet, seen in the shifted one
  in_octet : (k : ℕ) → bit ≤ k → k < (bit / 8 + 1) * 8
      → has_type_bit bits k ≡ nat_eq (bit_at (shifted octet (bit % 8)) (7 - k % 8 + bit % 8)) 1
  in_octet k ge lt =
      let same : k / 8 ≡ bit / 8 = omega arith in
      let ahead : bit % 8 ≤ k % 8 = omega arith in
      let back : 7 - k % 8 + bit % 8 - bit % 8 ≡ 7 - k % 8 = omega arith in
      ap (λ q. nat_lt q (length bits) && nat_eq (bit_at (slice_index bits q) (7 - k % 8)) 1) same
      ∙ ap (λ b. b && nat_eq (bit_at octet (7 - k % 8)) 1) (lt-ltb (bit / 8) (length bits) inside)
      ∙ ap (λ i. nat_eq (bit_at octet i) 1) (sym back)
      ∙ ap (λ b. nat_eq b 1) (sym (moved octet (bit % 8) (7 - k % 8 + bit % 8) (omega arith) (omega arith)))

  -- the octet has no further bit
  pub no_bit : shifted octet (bit % 8) ≡ 0 → (k : ℕ) → bit ≤ k → k < (bit / 8 + 1) * 8 → has_type_bit bits k ≡ false
  no_bit none k ge lt = in_octet k ge lt ∙ ap (λ s. nat_eq (bit_at s (7 - k % 8 + bit % 8)) 1) none
      ∙ ap (λ b. nat_eq b 1) (bit_at-zero (7 - k % 8 + bit % 8))

  -- the octet's next bit
  pub next_bit : 0 < shifted octet (bit % 8)
      → IsFirstFrom (has_type_bit bits) bit (bit + count_leading_zeros 8 (shifted octet (bit % 8)))
  next_bit some =
      let zeros = count_leading_zeros 8 (shifted octet (bit % 8)) in
      let h = highest (shifted octet (bit % 8)) some (omega arith) in
      let is : zeros + suc h.top ≡ 8 = h.is in
      let behind : bit % 8 ≤ h.top = at_least h.top (omega (arith, is)) h.set in
      let this : 7 - (bit + zeros) % 8 + bit % 8 ≡ h.top = omega (arith, is, behind) in
      record {
        ahead = omega arith;
        passes = in_octet (bit + zeros) (omega arith) (omega (arith, is, behind))
            ∙ ap (λ i. nat_eq (bit_at (shifted octet (bit % 8)) i) 1) this ∙ ap (λ b. nat_eq b 1) h.set;
        others = λ k ge lt. in_octet k ge (omega (arith, is, behind))
            ∙ ap (λ b. nat_eq b 1) (h.others (7 - k % 8 + bit % 8) (omega (arith, is, behind)));
      }
    where
      at_least : (top : ℕ) → top < 8 → bit_at (shifted octet (bit % 8)) top ≡ 1 → bit % 8 ≤ top
      at_least top small set = elim (cases_lt top (bit % 8))
          [ inl lt ↦ absurd (let n : 0 ≡ 1 = sym (filled octet (bit % 8) top small lt) ∙ set in cc) | inr le ↦ le ]
