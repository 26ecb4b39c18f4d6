-- Five bits of two octets, as a number.
use Rattle.std.proofs.Common.{◌≡◌, ℕ, ◌+◌, ◌-◌, ◌*◌, ◌/◌, ◌%◌, ◌^◌, ◌<◌, ◌≤◌, List, get_or, arith, refl, ap, sym, ◌∙◌}
use Rattle.std.proofs.Common.{inl, inr}
use Rattle.std.specs.Int.{bit_at}
use Rattle.std.proofs.Math.Nat.{div-div-eq-div-mul}
use Rattle.std.proofs.lemmas.Nat.{pow-add}
use Rattle.std.proofs.lemmas.Nat.Bits.{bit_at_cat_low, bit_at_cat_high}
use Rattle.std.proofs.lemmas.Bool.{cases_lt}
use Rattle.sec_digest.specs.Base32.{bit_of, five_bits}

bit_behind : (w s j : ℕ) → bit_at w (s + j) ≡ bit_at (w / 2 ^ s) j
bit_behind w s j = rw (pow-add 2 s j, ← div-div-eq-div-mul w (2 ^ s) (2 ^ j)) refl

low_five : (v : ℕ) → v % 32 ≡ 16 * bit_at v 4 + 8 * bit_at v 3 + 4 * bit_at v 2 + 2 * bit_at v 1 + bit_at v 0
low_five v = omega arith

-- a bit of the two octets from start on
bit_of_pair : (octets : List ℕ) (start k p : ℕ) → p ≡ 8 * start + k → k < 16 → get_or octets (start + 1) 0 < 256
    → bit_of octets p ≡ bit_at (get_or octets start 0 * 2 ^ 8 + get_or octets (start + 1) 0) (15 - k)
bit_of_pair octets start k p e small below = elim (cases_lt k 8) [
  | inl first ↦
      let octet : p / 8 ≡ start = omega arith in
      let bit : p % 8 ≡ k = omega arith in
      let high : 8 ≤ 15 - k = omega arith in
      let at : 15 - k - 8 ≡ 7 - k = omega arith in
      rw (octet, bit, ← at) (sym (bit_at_cat_high (get_or octets start 0) 8 (get_or octets (start + 1) 0) (15 - k)
      below high))
  | inr second ↦
      let octet : p / 8 ≡ start + 1 = omega arith in
      let bit : 7 - p % 8 ≡ 15 - k = omega arith in
      let low : 15 - k < 8 = omega arith in
      rw (octet, bit) (sym (bit_at_cat_low (get_or octets start 0) 8 (get_or octets (start + 1) 0) (15 - k) low))
]

-- the five bits from place skip on of the two octets from start on
pub spelled : (octets : List ℕ) (start skip p : ℕ) → p ≡ 8 * start + skip → skip < 8 → get_or octets (start + 1) 0 < 256
    → (get_or octets start 0 * 2 ^ 8 + get_or octets (start + 1) 0) / 2 ^ (11 - skip) % 32 ≡ five_bits octets p
spelled octets start skip p e small below =
    let w : ℕ = get_or octets start 0 * 2 ^ 8 + get_or octets (start + 1) 0 in
    let v : ℕ = w / 2 ^ (11 - skip) in
    let bit : (i q : ℕ) → i ≤ 4 → q ≡ p + (4 - i) → bit_at v i ≡ bit_of octets q =
    λ i q h at. let place : 11 - skip + i ≡ 15 - (skip + (4 - i)) = omega arith in
    sym (bit_behind w (11 - skip) i) ∙ ap (bit_at w) place
    ∙ sym (bit_of_pair octets start (skip + (4 - i)) q (omega arith) (omega arith) below) in
    low_five v ∙ rw (
      bit 4 p (omega arith) (omega arith),
      bit 3 (p + 1) (omega arith) (omega arith),
      bit 2 (p + 2) (omega arith) (omega arith),
      bit 1 (p + 3) (omega arith) (omega arith),
      bit 0 (p + 4) (omega arith) (omega arith),
    ) refl
