-- The units that a word is made of.
use Rattle.std.proofs.Common.{◌≡◌, ℕ, zero, suc, ◌+◌, ◌-◌, ◌<◌, ◌≤◌, List, [], ◌∷◌, length, get_or, drop, refl, ap}
use Rattle.std.proofs.Common.{◌∙◌, subst, length-drop, arith, true}
use Rattle.std.proofs.lemmas.Bool.Decides.{nat_tests}
use Rattle.std.proofs.lemmas.List.{get_or-drop, drop-drop}
use Rattle.std.proofs.lemmas.Str.{IsCharBoundary-start, IsCharBoundary-after_ascii}
use Rattle.std.specs.Char.{is_ascii_graphic}
use Rattle.std.specs.Str.{IsUtf8, IsCharBoundary}
use Rattle.dns_lexer.specs.Tokens.{unit_len, word_len, word_len_behind, is_plain}

graphic_small : (c : ℕ) → is_ascii_graphic c ≡ true → c < 128
graphic_small c e = grind (arith, nat_tests)

plain_small : (c : ℕ) → is_plain c ≡ true → c < 128
plain_small c e = grind (arith, nat_tests)

-- a unit is within its text
pub unit_within : (xs : List ℕ) → unit_len xs ≤ length xs
unit_within [] = omega arith
unit_within (c ∷ []) = grind (arith, nat_tests)
unit_within (c ∷ next ∷ rest) = grind (arith, nat_tests)

-- and its last octet is ASCII
pub unit_ascii : (xs : List ℕ) → 0 < unit_len xs → get_or xs (unit_len xs - 1) 0 < 128
unit_ascii [] some = absurd (omega arith)
unit_ascii (c ∷ []) some = grind (arith, nat_tests)
unit_ascii (c ∷ next ∷ rest) some = grind (arith, nat_tests)

pub drop_none : (xs : List ℕ) → drop 0 xs ≡ xs
drop_none [] = refl
drop_none (c ∷ xs) = refl

-- counted octets belong to the word
pub counted : (n : ℕ) (xs : List ℕ) → n ≤ length xs → word_len_behind n xs ≡ n + word_len (drop n xs)
unfolding word_len_behind
counted zero xs within = let same = ap word_len (drop_none xs) in omega arith
counted (suc n) [] within = absurd (omega arith)
counted (suc n) (c ∷ xs) within = let less = counted n xs (omega arith) in omega arith

behind_unit : (u c : ℕ) (rest : List ℕ) → 0 < u → u ≤ length (c ∷ rest)
    → 1 + word_len_behind (u - 1) rest ≡ u + word_len (drop u (c ∷ rest))
behind_unit zero c rest some within = absurd (omega arith)
behind_unit (suc n) c rest some within =
    let less = counted n rest (omega arith) in
    let same : word_len_behind (suc n - 1) rest ≡ word_len_behind n rest =
    ap (λ k. word_len_behind k rest) (omega arith) in
    omega arith

choose : (u c : ℕ) (rest : List ℕ) → 0 < u → u ≡ unit_len (c ∷ rest)
    → word_len (c ∷ rest) ≡ 1 + word_len_behind (u - 1) rest
unfolding word_len_behind
choose u c rest some is = grind (arith, nat_tests)

-- a word is its first unit and what the word has behind it
pub word_more : (xs : List ℕ) → 0 < unit_len xs → word_len xs ≡ unit_len xs + word_len (drop (unit_len xs) xs)
word_more [] some = absurd (omega arith)
word_more (c ∷ rest) some =
    choose _ c rest some refl ∙ behind_unit _ c rest some (unit_within (c ∷ rest))

-- where there is no unit, there is no word
pub word_none : (xs : List ℕ) → unit_len xs ≡ 0 → word_len xs ≡ 0
unfolding word_len_behind
word_none [] none = refl
word_none (c ∷ rest) none = rw none refl

-- so many octets of the word that a text begins with were met
pub record HasUnits (text : List ℕ) (len : ℕ) : Type 0 where
  pub within : len ≤ length text
  pub left : word_len text ≡ len + word_len (drop len text)
  pub ascii : 0 < len → get_or text (len - 1) 0 < 128

pub no_units : (text : List ℕ) → HasUnits text 0
no_units text = record {
  within = omega arith;
  left = let same = ap word_len (drop_none text) in omega arith;
  ascii = λ some. absurd (omega arith);
}

-- one unit more
module _ (text : List ℕ) (len : ℕ) (met : HasUnits text len) (some : 0 < unit_len (drop len text)) where
  fits : len + unit_len (drop len text) ≤ length text
  fits =
      let shorter = length-drop len text in
      let inside = met.within in
      let unit = unit_within (drop len text) in
      omega arith

  left_more : word_len text ≡ len + unit_len (drop len text) + word_len (drop (len + unit_len (drop len text)) text)
  left_more =
      let more = word_more (drop len text) some in
      let moved = ap word_len (drop-drop (unit_len (drop len text)) len text) in
      let before = met.left in
      omega arith

  ascii_more : get_or text (len + unit_len (drop len text) - 1) 0 < 128
  ascii_more =
      let last = unit_ascii (drop len text) some in
      let same : len + (unit_len (drop len text) - 1) ≡ len + unit_len (drop len text) - 1 = omega arith in
      let at = get_or-drop len text (unit_len (drop len text) - 1) 0 ∙ ap (λ i. get_or text i 0) same in
      omega arith

  pub unit_more : HasUnits text (len + unit_len (drop len text))
  unit_more = record { within = fits; left = left_more; ascii = λ _. ascii_more }

pub units_end : (text : List ℕ) (len : ℕ) → HasUnits text len → unit_len (drop len text) ≡ 0 → len ≡ word_len text
units_end text len met none =
    let nothing = word_none (drop len text) none in
    let before = met.left in
    omega arith

-- a text may be cut behind its word
pub boundary : (text : List ℕ) (len : ℕ) → IsUtf8 text → len ≤ length text
    → (0 < len → get_or text (len - 1) 0 < 128) → IsCharBoundary text len
boundary text zero utf8 within ascii = IsCharBoundary-start text utf8
boundary text (suc n) utf8 within ascii =
    subst (IsCharBoundary text) (add_one n) (IsCharBoundary-after_ascii text n utf8 (omega arith) (small n ascii))
  where
    add_one : (n : ℕ) → n + 1 ≡ suc n
    add_one n = omega arith

    small : (n : ℕ) → (0 < suc n → get_or text (suc n - 1) 0 < 128) → get_or text n 0 < 128
    small n h = let here = h (omega arith) in let e : suc n - 1 ≡ n = omega arith in rw e at here
