-- The digits of base32, one behind the other.
use Rattle.std.proofs.Common.{◌≡◌, ℕ, ◌+◌, ◌<◌, List, [], ◌∷◌, ◌++◌, map, length, take, set, refl, arith, ap, sym, ◌∙◌}
use Rattle.std.specs.List.{range_with_len}
use Rattle.std.proofs.lemmas.List.{take_more_set, length-set}
use Rattle.std.proofs.lemmas.List.FromFn.{map-range_with_len_more}
use Rattle.sec_digest.specs.Base32.{base32, digit_at, digit_count}

-- the first n digits
unfoldable pub digits_up_to : ℕ → List ℕ → List ℕ
digits_up_to n octets = map (digit_at octets) (range_with_len 0 n)

pub digits_none : (octets : List ℕ) → digits_up_to 0 octets ≡ []
unfolding digits_up_to
digits_none octets = refl

pub digits_more : (octets : List ℕ) (i : ℕ)
    → digits_up_to (i + 1) octets ≡ digits_up_to i octets ++ digit_at octets i ∷ []
unfolding digits_up_to
digits_more octets i = map-range_with_len_more (digit_at octets) 0 i i (omega arith)

pub digits_all : (octets : List ℕ) (n : ℕ) → n ≡ digit_count (length octets) → digits_up_to n octets ≡ base32 octets
unfolding digits_up_to base32
digits_all octets n is = ap (λ k. digits_up_to k octets) is

pub ruleset digit_steps = (digits_none, digits_more, digits_all)

-- ---- the digits in front of an array

-- the first n digits stand in front
pub record HasDigits (octets digits : List ℕ) (n : ℕ) : Type 0 where
  pub counted : length digits ≡ 63
  pub spelled : take n digits ≡ digits_up_to n octets

pub has_none : (octets digits : List ℕ) → length digits ≡ 63 → HasDigits octets digits 0
has_none octets digits long = record { counted = long; spelled = sym (digits_none octets) }

pub has_more : (octets digits : List ℕ) (n digit : ℕ) → n < 63 → digit ≡ digit_at octets n → HasDigits octets digits n
    → HasDigits octets (set digits n digit) (n + 1)
has_more octets digits n digit lt is h = record {
  counted = length-set digits n digit ∙ h.counted;
  spelled = take_more_set digits n digit (omega (arith, lt, h.counted)) ∙ (λ i. h.spelled i ++ is i ∷ [])
      ∙ sym (digits_more octets n);
}

pub has_all : (octets digits : List ℕ) (n : ℕ) → n ≡ digit_count (length octets) → HasDigits octets digits n
    → take n digits ≡ base32 octets
has_all octets digits n is h = h.spelled ∙ digits_all octets n is
