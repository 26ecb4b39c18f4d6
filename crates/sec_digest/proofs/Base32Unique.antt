-- Equal base32 texts come from equal octets.
use Rattle.std.proofs.Common.{◌≡◌, ℕ, zero, suc, ◌+◌, ◌-◌, ◌*◌, ◌/◌, ◌%◌, ◌^◌, ◌<◌, List, [], ◌∷◌, length, get_or}
use Rattle.std.proofs.Common.{arith, ap, sym, ◌∙◌, add-zero}
use Rattle.std.proofs.lemmas.List.FromFn.{length-map-range_with_len, get_or-map-range_with_len}
use Rattle.std.proofs.lemmas.Nat.Bits.{bit_at-lt, same_from_bits_below}
use Rattle.std.proofs.lemmas.Grind.{same_number_lists}
use Rattle.dns_wire.specs.Octets.{AreOctets}
use Rattle.sec_digest.specs.Base32.{base32, bit_of, digit_at, digit_count, digit_of, five_bits}
use Rattle.sec_digest.proofs.Digits.{same_number}

bit_of-lt : (x : List ℕ) (k : ℕ) → bit_of x k < 2
bit_of-lt x k = bit_at-lt (get_or x (k / 8) 0) (7 - k % 8)

five_bits-lt : (x : List ℕ) (p : ℕ) → five_bits x p < 32
five_bits-lt x p = omega (
  arith,
  bit_of-lt x p,
  bit_of-lt x (p + 1),
  bit_of-lt x (p + 2),
  bit_of-lt x (p + 3),
  bit_of-lt x (p + 4),
)

-- two functions that are equal at five places
at_five : (f g : ℕ → ℕ) (p j : ℕ) → f p ≡ g p → f (p + 1) ≡ g (p + 1) → f (p + 2) ≡ g (p + 2) → f (p + 3) ≡ g (p + 3)
    → f (p + 4) ≡ g (p + 4)
    → j < 5 → f (p + j) ≡ g (p + j)
at_five f g p zero e0 e1 e2 e3 e4 h = rw (add-zero p) e0
at_five f g p (suc zero) e0 e1 e2 e3 e4 h = e1
at_five f g p (suc (suc zero)) e0 e1 e2 e3 e4 h = e2
at_five f g p (suc (suc (suc zero))) e0 e1 e2 e3 e4 h = e3
at_five f g p (suc (suc (suc (suc zero)))) e0 e1 e2 e3 e4 h = e4
at_five f g p (suc (suc (suc (suc (suc j))))) e0 e1 e2 e3 e4 h = absurd (omega arith)

-- equal numbers of five bits have equal bits
five_same : (x y : List ℕ) (p j : ℕ) → five_bits x p ≡ five_bits y p → j < 5 → bit_of x (p + j) ≡ bit_of y (p + j)
five_same x y p j e h =
    let x0 = bit_of-lt x p in
    let x1 = bit_of-lt x (p + 1) in
    let x2 = bit_of-lt x (p + 2) in
    let x3 = bit_of-lt x (p + 3) in
    let x4 = bit_of-lt x (p + 4) in
    let y0 = bit_of-lt y p in
    let y1 = bit_of-lt y (p + 1) in
    let y2 = bit_of-lt y (p + 2) in
    let y3 = bit_of-lt y (p + 3) in
    let y4 = bit_of-lt y (p + 4) in
    at_five (bit_of x) (bit_of y) p j (omega arith) (omega arith) (omega arith) (omega arith) (omega arith) h

octets-lt : (x : List ℕ) (i : ℕ) → AreOctets x → get_or x i 0 < 2 ^ 8
octets-lt [] i are = omega arith
octets-lt (n ∷ x) zero are = are.0
octets-lt (n ∷ x) (suc i) are = octets-lt x i are.1

-- equal texts have as many octets
as_long : (x y : List ℕ) → base32 x ≡ base32 y → length x ≡ length y
unfolding base32 digit_at
as_long x y e =
    let n : digit_count (length x) ≡ digit_count (length y) =
    sym (length-map-range_with_len (λ i. digit_of (five_bits x (5 * i))) 0 (digit_count (length x))) ∙ ap length e
    ∙ length-map-range_with_len (λ i. digit_of (five_bits y (5 * i))) 0 (digit_count (length y)) in
    omega arith

-- equal texts come from numbers of five bits that are equal
digits_same : (x y : List ℕ) (i : ℕ) → base32 x ≡ base32 y → i < digit_count (length x)
    → five_bits x (5 * i) ≡ five_bits y (5 * i)
unfolding base32 digit_at
digits_same x y i e h =
    let long : length x ≡ length y = as_long x y e in
    let here : i < digit_count (length y) = omega arith in
    same_number (five_bits x (5 * i)) (five_bits y (5 * i)) (five_bits-lt x (5 * i)) (five_bits-lt y (5 * i))
    (sym (get_or-map-range_with_len (λ i. digit_of (five_bits x (5 * i))) 0 (digit_count (length x)) i i 0 h
    (omega arith))
    ∙ ap (λ (text : List ℕ). get_or text i 0) e
    ∙ get_or-map-range_with_len (λ i. digit_of (five_bits y (5 * i))) 0 (digit_count (length y)) i i 0 here
    (omega arith))

bits_same : (x y : List ℕ) (k : ℕ) → base32 x ≡ base32 y → k < 8 * length x → bit_of x k ≡ bit_of y k
bits_same x y k e h =
    let place : 5 * (k / 5) + k % 5 ≡ k = omega arith in
    rw place at (five_same x y (5 * (k / 5)) (k % 5) (digits_same x y (k / 5) e (omega arith)) (omega arith))

octet_same : (x y : List ℕ) (i : ℕ) → AreOctets x → AreOctets y → base32 x ≡ base32 y → i < length x
    → get_or x i 0 ≡ get_or y i 0
octet_same x y i in_x in_y e h =
    same_from_bits_below 8 (get_or x i 0) (get_or y i 0) (octets-lt x i in_x) (octets-lt y i in_y)
    (λ b small.
    let octet : (8 * i + (7 - b)) / 8 ≡ i = omega arith in
    let bit : 7 - (8 * i + (7 - b)) % 8 ≡ b = omega arith in
    rw (octet, bit) at (bits_same x y (8 * i + (7 - b)) e (omega arith)))

-- equal texts come from equal octets
pub base32_unique : (x y : List ℕ) → AreOctets x → AreOctets y → base32 x ≡ base32 y → x ≡ y
base32_unique x y in_x in_y e = same_number_lists x y (as_long x y e) (λ i h. octet_same x y i in_x in_y e h)
