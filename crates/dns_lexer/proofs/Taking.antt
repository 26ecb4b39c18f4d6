-- What is left for a lexer, by the token that it takes.
use Rattle.std.proofs.Common.{◌≡◌, ◌⊎◌, ℕ, ◌<◌, List, [], ◌∷◌, length, take, drop, refl, sym, ap, ◌∙◌, subst}
use Rattle.std.proofs.Common.{arith, inl, inr, true, false, get_or, Err}
use Rattle.std.specs.Prelude.{slice_index}
use Rattle.std.proofs.lemmas.Bool.Decides.{nat_tests}
use Rattle.std.proofs.lemmas.Str.{IsCharBoundary-after_ascii}
use Rattle.std.specs.Str.{chars, IsUtf8, IsCharBoundary}
use Rattle.dns_text.specs.Words.{is_line_feed}
use Rattle.dns_lexer.specs.declared.lexer.Lexer.{Lexer}
use Rattle.dns_lexer.specs.declared.lex_error.LexError.{LexError}
use Rattle.dns_lexer.specs.declared.lex_error.LexError.TheVariants as errors
use Rattle.dns_lexer.specs.declared.lex_token.LexToken.{LexToken}
use Rattle.dns_lexer.specs.declared.lex_token.LexToken.TheVariants as tokens
use Rattle.dns_lexer.specs.Tokens.{gap_len, word_len, is_parenthesis, word_item, item_before, item_of, dollar}
use Rattle.dns_lexer.specs.Tokens.{Item, mark, fault, items, items_left, items_behind, Takes}
use Rattle.dns_lexer.proofs.Steps.{at_word, at_line_feed, at_parenthesis, at_fault}

-- a token is no fault
before_token : (token : LexToken) (behind : List Item) → item_before (item_of token) behind ≡ item_of token ∷ behind
before_token tokens.Blank behind = refl
before_token (tokens.CharData text) behind = refl
before_token tokens.EOL behind = refl
before_token tokens.At behind = refl
before_token tokens.Include behind = refl
before_token tokens.Origin behind = refl
before_token tokens.Ttl behind = refl
before_token tokens.List behind = refl

module _ (text : List ℕ) (len : ℕ) (is : len ≡ word_len text) (some : 0 < len) where
  word_first : items_behind 0 text ≡ item_before (word_item (take len text)) (items_behind 0 (drop len text))
  word_first =
      subst (λ n. items_behind 0 text ≡ item_before (word_item (take n text)) (items_behind 0 (drop n text))) (sym is)
      (at_word text (omega arith))

  pub takes_word : (token : LexToken) → word_item (take len text) ≡ item_of token
      → items_behind 0 text ≡ item_of token ∷ items_behind 0 (drop len text)
  takes_word token e =
      word_first ∙ (ap (λ i. item_before i (items_behind 0 (drop len text))) e ∙ before_token token _)

  pub refuses_word : word_item (take len text) ≡ fault dollar → items_behind 0 text ≡ fault dollar ∷ []
  refuses_word e = word_first ∙ ap (λ i. item_before i (items_behind 0 (drop len text))) e

pub takes_line_feed : (text rest : List ℕ) (c : ℕ) → text ≡ c ∷ rest → c ≡ 10
    → items_behind 0 text ≡ mark tokens.EOL ∷ items rest
takes_line_feed text rest c e is = ap (items_behind 0) (e ∙ ap (λ x. x ∷ rest) is) ∙ at_line_feed rest

pub takes_parenthesis : (text rest : List ℕ) (c : ℕ) → text ≡ c ∷ rest → is_parenthesis c ≡ true
    → items_behind 0 text ≡ mark tokens.List ∷ items_behind 0 rest
takes_parenthesis text rest c e is = ap (items_behind 0) e ∙ at_parenthesis c rest is

no_line_feed : (c : ℕ) → (c ≡ 10 → ⊥) → is_line_feed c ≡ false
no_line_feed c h = grind (arith, nat_tests)

pub refuses_other : (text rest : List ℕ) (c : ℕ) → text ≡ c ∷ rest → word_len text ≡ 0 → gap_len text ≡ 0
    → (c ≡ 10 → ⊥) → is_parenthesis c ≡ false → items_behind 0 text ≡ fault (slice_index (chars text) 0) ∷ []
refuses_other text rest c e word gap line parenthesis =
    subst (λ t. word_len t ≡ 0 → gap_len t ≡ 0 → items_behind 0 t ≡ fault (slice_index (chars t) 0) ∷ []) (sym e)
    (λ w g. at_fault c rest w g (no_line_feed c line) parenthesis) word gap

-- a text may be cut behind a first octet that is ASCII
pub behind_first : (text rest : List ℕ) (c : ℕ) → IsUtf8 text → text ≡ c ∷ rest → c < 128 → IsCharBoundary text 1
behind_first text rest c utf8 e small =
    IsCharBoundary-after_ascii text 0 utf8 (let size = ap length e in omega arith)
    (let first = ap (λ t. get_or t 0 0) e in omega arith)

pub parenthesis_small : (c : ℕ) → is_parenthesis c ≡ true → c < 128
parenthesis_small c e = grind (arith, nat_tests)

-- a refusal leaves the lexer where it is
pub takes_err : (e : LexError) (lexer : Lexer)
    → (e ≡ errors.OutOfMemory) ⊎ ((e ≡ errors.UnrecognizedChar dollar) × (items_left lexer ≡ fault dollar ∷ []))
    → Takes (Err e) lexer lexer
takes_err errors.OutOfMemory lexer h = refl
takes_err (errors.UnrecognizedChar c) lexer (inl e) = absurd (cc)
takes_err (errors.UnrecognizedChar c) lexer (inr h) =
    let same : c ≡ dollar = let e = h.0 in cc in (h.1 ∙ ap (λ x. fault x ∷ []) (sym same), refl)
