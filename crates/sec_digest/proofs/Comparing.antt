-- Two octet strings compared by the differences of their octets.
use Rattle.std.proofs.Common.{◌≡◌, ℕ, ◌+◌, ◌<◌, List, length, take, get_or, arith, ap, sym, ◌∙◌}
use Rattle.std.specs.Prelude.{◌↔◌, bit_xor, bit_or}
use Rattle.std.specs.Int.Bits.{xor_add_and, xor_self}
use Rattle.std.proofs.lemmas.Nat.{and_le_l, and_le_r, le_or_l, le_or_r}
use Rattle.std.proofs.lemmas.List.{take_more_same, get_or-take, take-take}

same_octet : (x y : ℕ) → bit_xor x y ≡ 0 → x ≡ y
same_octet x y e = omega (arith, xor_add_and x y, and_le_l x y, and_le_r x y)

-- what is so far and what is at i are equal exactly where what is up to i is
pub one_more_same : (a b : List ℕ) (i difference : ℕ) → i < length a → i < length b
    → ((difference ≡ 0) ↔ (take i a ≡ take i b))
    → (bit_or difference (bit_xor (get_or a i 0) (get_or b i 0)) ≡ 0) ↔ (take (i + 1) a ≡ take (i + 1) b)
one_more_same a b i difference in_a in_b so_far = (
  λ none.
      let before : difference ≡ 0 = omega (arith, le_or_l difference (bit_xor (get_or a i 0) (get_or b i 0))) in
      let here : bit_xor (get_or a i 0) (get_or b i 0) ≡ 0 =
      omega (arith, le_or_r difference (bit_xor (get_or a i 0) (get_or b i 0))) in
      take_more_same a b i 0 in_a in_b (so_far.0 before) (same_octet _ _ here),
  λ same.
      let before : take i a ≡ take i b = sym (take-take i (i + 1) a (omega arith)) ∙ ap (take i) same
      ∙ take-take i (i + 1) b (omega arith) in
      let here : get_or a i 0 ≡ get_or b i 0 =
      sym (get_or-take (i + 1) a i 0 (omega arith)) ∙ ap (λ (xs : List ℕ). get_or xs i 0) same
      ∙ get_or-take (i + 1) b i 0 (omega arith) in
      rw (so_far.1 before, here, xor_self (get_or b i 0)),
)
