-- The items that a text begins with.
use Rattle.std.proofs.Common.{◌≡◌, ℕ, zero, suc, ◌-◌, ◌<◌, List, [], ◌∷◌, take, drop, refl}
use Rattle.std.proofs.Common.{sym}
use Rattle.std.proofs.Common.{ap, ◌∙◌, arith, nat_eq, nat_lt, cond, Bool, true, false}
use Rattle.std.specs.Prelude.{◌&&◌, slice_index}
use Rattle.std.proofs.lemmas.Bool.Decides.{nat_tests}
use Rattle.std.specs.Char.{is_ascii_graphic}
use Rattle.std.specs.Str.{chars}
use Rattle.dns_text.specs.Words.{is_blank, is_line_feed, line_feed}
use Rattle.dns_lexer.specs.declared.lex_token.LexToken.TheVariants as tokens
use Rattle.dns_lexer.specs.Tokens.{gap_len, unit_len, word_len, is_plain, is_parenthesis, backslash, word_item}
use Rattle.dns_lexer.specs.Tokens.{item_before}
use Rattle.dns_lexer.specs.Tokens.{mark, fault, begins, items, items_behind}
use Rattle.dns_lexer.proofs.Units.{drop_none, word_none}

-- skipped octets count for nothing
pub items-skipped : (n : ℕ) (xs : List ℕ) → items_behind n xs ≡ items_behind 0 (drop n xs)
unfolding items_behind
items-skipped zero xs = sym (ap (items_behind 0) (drop_none xs))
items-skipped (suc n) [] = refl
items-skipped (suc n) (c ∷ xs) = items-skipped n xs

no_unit : (c : ℕ) (rest : List ℕ) → is_plain c ≡ false → nat_eq c backslash ≡ false → unit_len (c ∷ rest) ≡ 0
no_unit c [] plain back = ap (λ b. cond b 1 0) plain
no_unit c (next ∷ rest) plain back =
    ap (λ b. cond b (cond (is_ascii_graphic next) 2 0) (cond (is_plain c) 1 0)) back ∙ ap (λ b. cond b 1 0) plain

no_word : (c : ℕ) (rest : List ℕ) → is_plain c ≡ false → nat_eq c backslash ≡ false → word_len (c ∷ rest) ≡ 0
no_word c rest plain back = word_none (c ∷ rest) (no_unit c rest plain back)

gap_not_plain : (c : ℕ) (rest : List ℕ) → 0 < gap_len (c ∷ rest) → is_plain c ≡ false
gap_not_plain c rest some = grind (arith, nat_tests)

gap_not_backslash : (c : ℕ) (rest : List ℕ) → 0 < gap_len (c ∷ rest) → nat_eq c backslash ≡ false
gap_not_backslash c rest some = grind (arith, nat_tests)

positive : {X : Type 0} (n : ℕ) (x y : X) → 0 < n → cond (nat_lt 0 n) x y ≡ x
positive n x y some = grind (arith, nat_tests)

nothing : {X : Type 0} (n : ℕ) (x y : X) → n ≡ 0 → cond (nat_lt 0 n) x y ≡ y
nothing n x y none = grind (arith, nat_tests)

skip_first : (n c : ℕ) (rest : List ℕ) → 0 < n → items_behind (n - 1) rest ≡ items_behind 0 (drop n (c ∷ rest))
skip_first zero c rest some = absurd (omega arith)
skip_first (suc n) c rest some =
    let same : suc n - 1 ≡ n = omega arith in ap (λ k. items_behind k rest) same ∙ items-skipped n rest

-- a word
pub at_word : (xs : List ℕ) → 0 < word_len xs
    → items_behind 0 xs ≡ item_before (word_item (take (word_len xs) xs)) (items_behind 0 (drop (word_len xs) xs))
unfolding items_behind
at_word [] some = absurd (let none = word_none [] refl in omega arith)
at_word (c ∷ rest) some =
    positive _ _ _ some
    ∙ ap (item_before (word_item (take (word_len (c ∷ rest)) (c ∷ rest)))) (skip_first _ c rest some)

-- what is no word
other : (c : ℕ) (rest : List ℕ) → word_len (c ∷ rest) ≡ 0
    → items_behind 0 (c ∷ rest)
    ≡ cond (nat_lt 0 (gap_len (c ∷ rest))) (items_behind (gap_len (c ∷ rest) - 1) rest)
    (cond (is_line_feed c) (mark tokens.EOL ∷ items rest)
    (cond (is_parenthesis c) (mark tokens.List ∷ items_behind 0 rest)
    (fault (slice_index (chars (c ∷ rest)) 0) ∷ [])))
unfolding items_behind
other c rest none = nothing _ _ _ none

-- what stands between tokens
pub at_gap : (xs : List ℕ) → 0 < gap_len xs → items_behind 0 xs ≡ items_behind 0 (drop (gap_len xs) xs)
at_gap [] some = absurd (omega arith)
at_gap (c ∷ rest) some =
    other c rest (no_word c rest (gap_not_plain c rest some) (gap_not_backslash c rest some))
    ∙ (positive _ _ _ some ∙ skip_first _ c rest some)

pub at_end : items_behind 0 [] ≡ []
unfolding items_behind
at_end = refl

pub at_line_feed : (rest : List ℕ) → items_behind 0 (line_feed ∷ rest) ≡ mark tokens.EOL ∷ items rest
at_line_feed rest = other line_feed rest (no_word line_feed rest refl refl)

parenthesis_not_plain : (c : ℕ) → is_parenthesis c ≡ true → is_plain c ≡ false
parenthesis_not_plain c e = grind (arith, nat_tests)

parenthesis_not_backslash : (c : ℕ) → is_parenthesis c ≡ true → nat_eq c backslash ≡ false
parenthesis_not_backslash c e = grind (arith, nat_tests)

parenthesis_no_gap : (c : ℕ) (rest : List ℕ) → is_parenthesis c ≡ true → gap_len (c ∷ rest) ≡ 0
parenthesis_no_gap c rest e = grind (arith, nat_tests)

parenthesis_no_line_feed : (c : ℕ) → is_parenthesis c ≡ true → is_line_feed c ≡ false
parenthesis_no_line_feed c e = grind (arith, nat_tests)

pub at_parenthesis : (c : ℕ) (rest : List ℕ) → is_parenthesis c ≡ true
    → items_behind 0 (c ∷ rest) ≡ mark tokens.List ∷ items_behind 0 rest
at_parenthesis c rest e =
    other c rest (no_word c rest (parenthesis_not_plain c e) (parenthesis_not_backslash c e))
    ∙ (nothing _ _ _ (parenthesis_no_gap c rest e) ∙ rw (parenthesis_no_line_feed c e, e) refl)

pub at_fault : (c : ℕ) (rest : List ℕ) → word_len (c ∷ rest) ≡ 0 → gap_len (c ∷ rest) ≡ 0 → is_line_feed c ≡ false
    → is_parenthesis c ≡ false → items_behind 0 (c ∷ rest) ≡ fault (slice_index (chars (c ∷ rest)) 0) ∷ []
at_fault c rest word gap line parenthesis =
    other c rest word ∙ (nothing _ _ _ gap ∙ rw (line, parenthesis) refl)

-- what is left where no blank at a line's start is next
pub left_behind : (start : Bool) (text : List ℕ) → (start && begins is_blank text) ≡ false
    → cond start (items text) (items_behind 0 text) ≡ items_behind 0 text
left_behind true text e = ap (λ b. cond b (mark tokens.Blank ∷ items_behind 0 text) (items_behind 0 text)) e
left_behind false text e = refl
