-- What a loop over decimal digits comes to, and numbers that are shown and read again.
use Rattle.std.proofs.Common.{◌≡◌, ℕ, ◌+◌, ◌-◌, ◌*◌, ◌^◌, ◌<◌, ◌≤◌, min, true, false, ltb, List, [], ◌∷◌, length}
use Rattle.std.proofs.Common.{get_or, take, Some, None, refl, sym, ap, ◌∙◌, arith}
use Rattle.std.specs.Char.{is_ascii_digit, digit_value}
use Rattle.std.specs.List.{list_all}
use Rattle.std.specs.Str.Parse.{digits_value, AllDigits}
use Rattle.std.specs.Fmt.{decimal}
use Rattle.std.proofs.lemmas.Fmt.{decimal_is_IsNumeral}
use Rattle.std.proofs.lemmas.Bool.{le-ltb, lt-ltb}
use Rattle.std.proofs.lemmas.Bool.Decides.{nat_tests}
use Rattle.std.proofs.lemmas.Int.Digits.{digits_value_more}
use Rattle.std.proofs.lemmas.List.{take_all}
use Rattle.std.proofs.lemmas.List.Folds.{list_all_at, list_all_more}
use Rattle.dns_text.specs.Words.{number_of, number_below}

-- all octets so far are digits, and the number is what they write, or the last value of a `u64`
pub record HasDigits (number : ℕ) (digits : List ℕ) : Type 0 where
  pub all : list_all is_ascii_digit digits ≡ true
  pub value : number ≡ min (digits_value 10 digits) (2 ^ 64 - 1)

digit_is : (c : ℕ) → is_ascii_digit c ≡ true → digit_value c ≡ c - 48
digit_is c e = grind (arith, nat_tests)

pub next_digit : (number more i : ℕ) (word : List ℕ) → HasDigits number (take i word) → i < length word
    → is_ascii_digit (get_or word i 0) ≡ true
    → more ≡ min (min (number * 10) (2 ^ 64 - 1) + (get_or word i 0 - 48)) (2 ^ 64 - 1)
    → HasDigits more (take (i + 1) word)
next_digit number more i word so_far lt digit is = record {
  all = rw (list_all_more is_ascii_digit word i 0 lt, so_far.all, digit) refl;
  value =
      let v = digits_value_more 10 word i lt in
      let d = digit_is (get_or word i 0) digit in
      omega (arith, so_far.value, is, v, d);
}

nonempty : (n : ℕ) → 0 < n → ltb 0 n ≡ true
nonempty n some = lt-ltb 0 n some

-- no number, where an octet is no digit
pub no_digit : (end i : ℕ) (word : List ℕ) → i < length word → is_ascii_digit (get_or word i 0) ≡ false
    → number_below end word ≡ None
no_digit end i word lt other = rw (list_all_at is_ascii_digit word i 0 lt other)
    (rw (nonempty (length word) (omega arith)) refl)

number_is : (word : List ℕ) → 0 < length word → list_all is_ascii_digit word ≡ true
    → number_of word ≡ Some (digits_value 10 word)
number_is word some all = rw (nonempty (length word) some, all) refl

pub below : (end number i : ℕ) (word : List ℕ) → HasDigits number (take i word) → 0 < length word → length word ≤ i
    → number < end → end < 2 ^ 64 → number_below end word ≡ Some number
below end number i word digits some all lt fits =
    let whole = take_all i word all in
    let v : number ≡ digits_value 10 word = omega (arith, digits.value, ap (digits_value 10) whole) in
    rw (number_is word some (ap (list_all is_ascii_digit) (sym whole) ∙ digits.all))
    (rw (← v) (rw (lt-ltb number end lt) refl))

pub not_below : (end number i : ℕ) (word : List ℕ) → HasDigits number (take i word) → 0 < length word → length word ≤ i
    → end ≤ number → number_below end word ≡ None
not_below end number i word digits some all le =
    let whole = take_all i word all in
    let large : end ≤ digits_value 10 word = omega (arith, digits.value, ap (digits_value 10) whole) in
    rw (number_is word some (ap (list_all is_ascii_digit) (sym whole) ∙ digits.all))
    (rw (le-ltb (digits_value 10 word) end large) refl)

digit_back : (c : ℕ) → digit_value c < 10 → is_ascii_digit c ≡ true
digit_back c h = grind (arith, nat_tests)

digits_back : (digits : List ℕ) → AllDigits 10 digits → list_all is_ascii_digit digits ≡ true
digits_back [] h = refl
digits_back (c ∷ digits) h = rw (digit_back c h.0) (digits_back digits h.1)

-- what is shown of a number is read as it
pub number_below-decimal : (end n : ℕ) → n < end → n < 2 ^ 64 → number_below end (decimal n) ≡ Some n
number_below-decimal end n lt fits =
    let numeral = decimal_is_IsNumeral n fits in
    rw (nonempty (length (decimal n)) numeral.0.0, digits_back (decimal n) numeral.0.1, numeral.1, lt-ltb n end lt) refl
