-- The 32 digits of base32, gone through one by one.
use Rattle.std.proofs.Common.{◌≡◌, ℕ, ◌-◌, ◌<◌, true, refl, ap, sym, ◌∙◌}
use Rattle.std.specs.Prelude.{◌==◌, nat_lt, if◌then◌else◌}
use Rattle.std.proofs.lemmas.Bool.{ltb-true, eqb-true, agree_below_at}
use Rattle.sec_digest.specs.Base32.{digit_of}

pub digit-ascii : (n : ℕ) → n < 32 → digit_of n < 128
unfolding digit_of
digit-ascii n h = ltb-true (digit_of n) 128 (agree_below_at (λ k. nat_lt (digit_of k) 128) (λ _. true) 32 n refl h)

-- the number of a digit
abbrev digit_number : ℕ → ℕ
digit_number digit = if nat_lt digit 97 then digit - 48 else digit - 87

pub digit_number-digit : (n : ℕ) → n < 32 → digit_number (digit_of n) ≡ n
unfolding digit_of
digit_number-digit n h =
    eqb-true (digit_number (digit_of n)) n
    (agree_below_at (λ k. digit_number (digit_of k) == k) (λ _. true) 32 n refl h)

-- each digit is that of one number
pub same_number : (m n : ℕ) → m < 32 → n < 32 → digit_of m ≡ digit_of n → m ≡ n
same_number m n in_m in_n e = sym (digit_number-digit m in_m) ∙ ap digit_number e ∙ digit_number-digit n in_n
