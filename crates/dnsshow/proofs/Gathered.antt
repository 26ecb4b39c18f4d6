-- Lists that calls gather, one element at a time.
use Rattle.std.proofs.Common.{◌≡◌, ℕ, List, [], ◌∷◌, ◌++◌, refl, sym, ap, ◌∙◌, append_assoc, append-nil}
use Rattle.std.proofs.Common.{Result, Ok, Err}
use Rattle.dns_wire.specs.Reading.{◌>>=◌}
use Rattle.dns_lexer.specs.declared.lex_token.LexToken.{LexToken}
use Rattle.dns_lexer.specs.declared.lex_token.LexToken.TheVariants as tokens
use Rattle.dns_lexer.specs.declared.lex_error.LexError.TheVariants.{UnrecognizedChar}
use Rattle.dns_lexer.specs.ErrorTexts.{lex_token_text}
use Rattle.dns_lexer.specs.Tokens.{Item, fault, item_of}
use Rattle.dns_rows.specs.declared.refusal.Refusal.{Refusal}
use Rattle.dns_rows.specs.declared.refusal.Refusal.TheVariants.{Lex}
use Rattle.dns_rows.specs.CallWords.{type_in}
use Rattle.dnsshow.specs.TypeCalls.{types_named}
use Rattle.dnsshow.specs.TextCalls.{token_texts}

-- elements that were met before others
abbrev pub after : {A : Type 0} → List A → Result (List A) Refusal → Result (List A) Refusal
after met others = others >>= (λ more. Ok (met ++ more))

-- an element before others
abbrev pub before : {A : Type 0} → A → Result (List A) Refusal → Result (List A) Refusal
before first others = others >>= (λ more. Ok (first ∷ more))

after_none : {A : Type 0} → (others : Result (List A) Refusal) → after [] others ≡ others
after_none (Ok others) = refl
after_none (Err e) = refl

after_more : {A : Type 0} → (met : List A) (first : A) (others : Result (List A) Refusal)
    → after met (before first others) ≡ after (met ++ first ∷ []) others
after_more met first (Ok others) = ap Ok (sym (append_assoc met (first ∷ []) others))
after_more met first (Err e) = refl

-- ---- the types that words name

pub types_begin : (whole : List (List ℕ)) → after [] (types_named whole) ≡ types_named whole
types_begin whole = after_none (types_named whole)

type_before : (text : List ℕ) (rtype : ℕ) (old new : List (List ℕ)) → old ≡ text ∷ new → type_in text ≡ Ok rtype
    → types_named old ≡ before rtype (types_named new)
type_before text rtype old new first is =
    ap types_named first ∙ ap (λ (found : Result ℕ Refusal). found >>= (λ t. before t (types_named new))) is

pub types_more : (met longer : List ℕ) (text : List ℕ) (rtype : ℕ) (old new whole : List (List ℕ))
    → after met (types_named old) ≡ types_named whole → old ≡ text ∷ new → type_in text ≡ Ok rtype
    → longer ≡ met ++ rtype ∷ [] → after longer (types_named new) ≡ types_named whole
types_more met longer text rtype old new whole so_far first is grown =
    ap (λ m. after m (types_named new)) grown ∙ sym (after_more met rtype (types_named new))
    ∙ ap (after met) (sym (type_before text rtype old new first is)) ∙ so_far

pub types_end : (met : List ℕ) (old whole : List (List ℕ)) → after met (types_named old) ≡ types_named whole → old ≡ []
    → types_named whole ≡ Ok met
types_end met old whole so_far none =
    sym so_far ∙ ap (λ l. after met (types_named l)) none ∙ ap Ok (append-nil met)

pub types_refused : (met : List ℕ) (text : List ℕ) (e : Refusal) (old new whole : List (List ℕ))
    → after met (types_named old) ≡ types_named whole → old ≡ text ∷ new → type_in text ≡ Err e
    → types_named whole ≡ Err e
types_refused met text e old new whole so_far first is =
    sym so_far ∙ ap (λ l. after met (types_named l)) first
    ∙ ap (λ (found : Result ℕ Refusal). after met (found >>= (λ t. before t (types_named new)))) is

-- ---- the texts of tokens

pub tokens_begin : (whole : List Item) → after [] (token_texts whole) ≡ token_texts whole
tokens_begin whole = after_none (token_texts whole)

token_before : (token : LexToken) (new : List Item)
    → token_texts (item_of token ∷ new) ≡ before (lex_token_text token) (token_texts new)
token_before tokens.Blank new = refl
token_before (tokens.CharData text) new = refl
token_before tokens.EOL new = refl
token_before tokens.At new = refl
token_before tokens.Include new = refl
token_before tokens.Origin new = refl
token_before tokens.Ttl new = refl
token_before tokens.List new = refl

pub tokens_more : (met longer : List (List ℕ)) (token : LexToken) (old new whole : List Item)
    → after met (token_texts old) ≡ token_texts whole → old ≡ item_of token ∷ new
    → longer ≡ met ++ lex_token_text token ∷ [] → after longer (token_texts new) ≡ token_texts whole
tokens_more met longer token old new whole so_far first grown =
    ap (λ m. after m (token_texts new)) grown ∙ sym (after_more met (lex_token_text token) (token_texts new))
    ∙ ap (after met) (sym (ap token_texts first ∙ token_before token new)) ∙ so_far

pub tokens_end : (met : List (List ℕ)) (old whole : List Item) → after met (token_texts old) ≡ token_texts whole
    → old ≡ [] → token_texts whole ≡ Ok met
tokens_end met old whole so_far none =
    sym so_far ∙ ap (λ l. after met (token_texts l)) none ∙ ap Ok (append-nil met)

pub tokens_refused : (met : List (List ℕ)) (c : ℕ) (old whole : List Item)
    → after met (token_texts old) ≡ token_texts whole → old ≡ fault c ∷ []
    → token_texts whole ≡ Err (Lex (UnrecognizedChar c))
tokens_refused met c old whole so_far first = sym so_far ∙ ap (λ l. after met (token_texts l)) first
