-- What stands between tokens.
use Rattle.std.proofs.Common.{◌≡◌, ℕ, ◌+◌, ◌<◌, List, [], ◌∷◌, length, get_or, refl, sym}
use Rattle.std.proofs.Common.{subst, arith, nat_eq, nat_lt, cond, Bool, true, false, inl, inr, not}
use Rattle.std.specs.Prelude.{◌&&◌}
use Rattle.std.proofs.lemmas.Bool.{cases_Bool}
use Rattle.std.proofs.lemmas.Bool.Decides.{nat_tests}
use Rattle.std.proofs.lemmas.Str.{IsCharBoundary-start, IsCharBoundary-after_ascii, IsCharBoundary-end}
use Rattle.std.proofs.lemmas.Str.{IsCharBoundary-before_ascii, IsCharBoundary-from_rest}
use Rattle.std.proofs.lemmas.List.Sums.{passes_at_first, prefix_len-le-length}
use Rattle.std.specs.List.{position_or_len}
use Rattle.std.specs.Str.{IsUtf8, IsCharBoundary}
use Rattle.dns_text.specs.Words.{is_blank, is_line_feed, carriage_return}
use Rattle.dns_lexer.specs.Tokens.{gap_len, begins, semicolon}
use Rattle.dns_lexer.proofs.Units.{drop_none}

-- a text may be cut before its first line feed, and where it has none at its end
line_boundary : (xs : List ℕ) → IsCharBoundary xs (position_or_len is_line_feed xs)
line_boundary xs =
    elim (cases_Bool (nat_lt (position_or_len is_line_feed xs) (length xs))) [
      | inl t ↦
          let less : position_or_len is_line_feed xs < length xs = grind (arith, nat_tests) in
          let feed = passes_at_first is_line_feed xs 0 less in
          let small : get_or xs (position_or_len is_line_feed xs) 0 < 128 = grind (arith, nat_tests) in
          IsCharBoundary-before_ascii xs (position_or_len is_line_feed xs) less small
      | inr f ↦
          let most = prefix_len-le-length (λ x. not (is_line_feed x)) xs in
          let all : length xs ≡ position_or_len is_line_feed xs = grind (arith, nat_tests) in
          subst (IsCharBoundary xs) all (IsCharBoundary-end xs)
    ]

module _ (c : ℕ) (rest : List ℕ) (utf8 : IsUtf8 (c ∷ rest)) where
  behind_one : c < 128 → IsCharBoundary (c ∷ rest) 1
  behind_one small = IsCharBoundary-after_ascii (c ∷ rest) 0 utf8 (omega arith) small

  behind_line : c < 128 → IsCharBoundary (c ∷ rest) (1 + position_or_len is_line_feed rest)
  behind_line small =
      IsCharBoundary-from_rest (c ∷ rest) 1 (position_or_len is_line_feed rest) (omega arith)
      (subst (λ xs. IsCharBoundary xs (position_or_len is_line_feed rest)) (sym (drop_none rest)) (line_boundary rest))

  choose : (a b d : Bool) → (a ≡ true → c < 128) → (b ≡ true → c < 128) → (d ≡ true → c < 128)
      → IsCharBoundary (c ∷ rest) (cond a 1 (cond b 1 (cond d (1 + position_or_len is_line_feed rest) 0)))
  choose true b d f g h = behind_one (f refl)
  choose false true d f g h = behind_one (g refl)
  choose false false true f g h = behind_line (h refl)
  choose false false false f g h = IsCharBoundary-start (c ∷ rest) utf8

-- a text may be cut behind what stands between tokens
pub gap_boundary : (xs : List ℕ) → IsUtf8 xs → IsCharBoundary xs (gap_len xs)
gap_boundary [] utf8 = IsCharBoundary-start [] utf8
gap_boundary (c ∷ rest) utf8 =
    choose c rest utf8 (is_blank c) (nat_eq c carriage_return && begins is_line_feed rest) (nat_eq c semicolon)
    (λ e. grind (arith, nat_tests)) (λ e. grind (arith, nat_tests)) (λ e. grind (arith, nat_tests))
