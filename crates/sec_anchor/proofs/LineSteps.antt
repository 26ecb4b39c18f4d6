-- Lines of items, taken one item at a time.
use Rattle.std.proofs.Common.{◌≡◌, ℕ, ◌≤◌, List, [], ◌∷◌, ◌++◌, length, refl, sym, ap, ◌∙◌, arith}
use Rattle.std.proofs.Common.{true, false, cond, inl, inr, Option, Some, None, Result, Ok, Err, append_assoc}
use Rattle.std.proofs.Common.{append-nil}
use Rattle.std.specs.List.{onto_first}
use Rattle.std.proofs.lemmas.Bool.{cases_Bool}
use Rattle.dns_wire.specs.Reading.{◌>>=◌}
use Rattle.dns_text.specs.Words.{space}
use Rattle.dns_lexer.specs.declared.lex_token.LexToken.TheVariants as tokens
use Rattle.dns_lexer.specs.Tokens.{Item, word, mark, fault}
use Rattle.sec_anchor.specs.declared.parse_error.ParseError.{ParseError}
use Rattle.sec_anchor.specs.Entries.{EntryData, is_eol, token_lines, words_ahead, line_says, LineSays, by_owner}
use Rattle.sec_anchor.specs.Entries.{entry_before, lines_say, entries_ahead}
use Rattle.sec_anchor.specs.Lines.{first_line, behind_line, refusal, token_refusal, extended}

pub refuses_word : (xs : List Item) (e : ParseError) → token_refusal xs ≡ Some e → refusal xs ≡ Some e
refuses_word [] e h = absurd (cc)
refuses_word (word text ∷ rest) e h = absurd (cc)
refuses_word (mark tokens.Blank ∷ rest) e h = absurd (cc)
refuses_word (mark (tokens.CharData text) ∷ rest) e h = h
refuses_word (mark tokens.EOL ∷ rest) e h = absurd (cc)
refuses_word (mark tokens.At ∷ rest) e h = h
refuses_word (mark tokens.Include ∷ rest) e h = h
refuses_word (mark tokens.Origin ∷ rest) e h = h
refuses_word (mark tokens.Ttl ∷ rest) e h = h
refuses_word (mark tokens.List ∷ rest) e h = h
refuses_word (fault c ∷ rest) e h = h

-- a cause as an answer
abbrev the_err : {X : Type 0} → ParseError → Result X ParseError
the_err e = Err e

as_err : {X : Type 0} → (d e : ParseError) → Some d ≡ Some e → the_err {X = X} d ≡ the_err e
as_err d e h = let same : d ≡ e = cc in ap the_err same

pub refuses_in_line : (xs : List Item) (e : ParseError) → token_refusal xs ≡ Some e
    → words_ahead (first_line xs) ≡ Err e
refuses_in_line [] e h = absurd (cc)
refuses_in_line (word text ∷ rest) e h = absurd (cc)
refuses_in_line (mark tokens.Blank ∷ rest) e h = absurd (cc)
refuses_in_line (mark (tokens.CharData text) ∷ rest) e h = as_err _ e h
refuses_in_line (mark tokens.EOL ∷ rest) e h = absurd (cc)
refuses_in_line (mark tokens.At ∷ rest) e h = as_err _ e h
refuses_in_line (mark tokens.Include ∷ rest) e h = as_err _ e h
refuses_in_line (mark tokens.Origin ∷ rest) e h = as_err _ e h
refuses_in_line (mark tokens.Ttl ∷ rest) e h = as_err _ e h
refuses_in_line (mark tokens.List ∷ rest) e h = as_err _ e h
refuses_in_line (fault c ∷ rest) e h = as_err _ e h

-- ---- texts of words

extended_more : (text next : List ℕ) (r : Result (List (List ℕ)) ParseError)
    → extended text (r >>= (λ others. Ok (next ∷ others))) ≡ extended ((text ++ space ∷ []) ++ next) r
extended_more text next (Ok others) = ap Ok (simp append_assoc)
extended_more text next (Err e) = refl

-- one word more
pub text_more : (text next : List ℕ) (old new : List Item) → old ≡ word next ∷ new
    → extended ((text ++ space ∷ []) ++ next) (words_ahead (first_line new))
    ≡ extended text (words_ahead (first_line old))
text_more text next old new e =
    sym (ap (λ xs. extended text (words_ahead (first_line xs))) e
    ∙ extended_more text next (words_ahead (first_line new)))

-- no more words
pub text_end : (text : List ℕ) (old : List Item) → words_ahead (first_line old) ≡ Ok []
    → extended text (words_ahead (first_line old)) ≡ Ok text
text_end text old e = ap (extended text) e ∙ ap Ok (append-nil text)

-- ---- lines

module _ (item : Item) (rest : List Item) where
  cut_eol : is_eol item ≡ true
      → token_lines (item ∷ rest) ≡ first_line (item ∷ rest) ∷ token_lines (behind_line (item ∷ rest))
  cut_eol t =
      ap (λ b. cond b ((item ∷ []) ∷ token_lines rest) (onto_first item (token_lines rest))) t
      ∙ sym (ap (λ b. cond b (item ∷ []) (item ∷ first_line rest) ∷ token_lines (cond b rest (behind_line rest))) t)

  cut_other : is_eol item ≡ false
      → onto_first item (token_lines rest) ≡ (item ∷ first_line rest) ∷ token_lines (behind_line rest)
      → token_lines (item ∷ rest) ≡ first_line (item ∷ rest) ∷ token_lines (behind_line (item ∷ rest))
  cut_other f behind =
      ap (λ b. cond b ((item ∷ []) ∷ token_lines rest) (onto_first item (token_lines rest))) f
      ∙ (behind
      ∙ sym (ap (λ b. cond b (item ∷ []) (item ∷ first_line rest) ∷ token_lines (cond b rest (behind_line rest))) f))

-- the first line, and the others
pub lines_cut : (item : Item) (rest : List Item)
    → token_lines (item ∷ rest) ≡ first_line (item ∷ rest) ∷ token_lines (behind_line (item ∷ rest))
lines_cut item [] =
    elim (cases_Bool (is_eol item)) [ inl t ↦ cut_eol item [] t | inr f ↦ cut_other item [] f refl ]
lines_cut item (next ∷ others) =
    elim (cases_Bool (is_eol item)) [
      | inl t ↦ cut_eol item (next ∷ others) t
      | inr f ↦ cut_other item (next ∷ others) f (ap (onto_first item) (lines_cut next others))
    ]

pub line_shorter : (xs : List Item) → length (behind_line xs) ≤ length xs
line_shorter [] = omega arith
line_shorter (item ∷ rest) = elim (cases_Bool (is_eol item)) [
  | inl t ↦ let e = ap (λ b. length (cond b rest (behind_line rest))) t in omega arith
  | inr f ↦ let e = ap (λ b. length (cond b rest (behind_line rest))) f in let less = line_shorter rest in omega arith
]

same_result : {X : Type 0} → (r : Result X ParseError) → r >>= (λ x. Ok x) ≡ r
same_result (Ok x) = refl
same_result (Err e) = refl

-- what a line and those behind it say
abbrev pub both : LineSays → Result (List EntryData) ParseError → Result (List EntryData) ParseError
both says others = says >>= (λ entry. others >>= (λ more. Ok (entry_before entry more)))

first_says : (item : Item) (rest : List Item) → entries_ahead (item ∷ rest)
    ≡ both (line_says (first_line (item ∷ rest))) (entries_ahead (behind_line (item ∷ rest)))
first_says item rest = ap lines_say (lines_cut item rest)

-- a line with an owner
pub owner_says : (old mid new : List Item) (owner : List ℕ) (entry : Option EntryData) → old ≡ word owner ∷ mid
    → by_owner owner (first_line mid) ≡ Ok entry → new ≡ behind_line mid
    → entries_ahead old ≡ entries_ahead new >>= (λ others. Ok (entry_before entry others))
owner_says old mid new owner entry e says left =
    ap entries_ahead e ∙ (first_says (word owner) mid
    ∙ (ap (λ s. both s (entries_ahead (behind_line mid))) says
    ∙ ap (λ xs. entries_ahead xs >>= (λ others. Ok (entry_before entry others))) (sym left)))

pub owner_refused : (old mid : List Item) (owner : List ℕ) (e : ParseError) → old ≡ word owner ∷ mid
    → by_owner owner (first_line mid) ≡ Err e → entries_ahead old ≡ Err e
owner_refused old mid owner e is says =
    ap entries_ahead is ∙ (first_says (word owner) mid ∙ ap (λ s. both s (entries_ahead (behind_line mid))) says)

-- a blank before a line
blank_ahead : (rest : List Item) → entries_ahead (mark tokens.Blank ∷ rest) ≡ entries_ahead rest
blank_ahead [] = refl
blank_ahead (item ∷ rest) = first_says (mark tokens.Blank) (item ∷ rest) ∙ sym (first_says item rest)

pub blank_says : (old new : List Item) → old ≡ mark tokens.Blank ∷ new
    → entries_ahead old ≡ entries_ahead new >>= (λ others. Ok (entry_before None others))
blank_says old new e = ap entries_ahead e ∙ (blank_ahead new ∙ sym (same_result (entries_ahead new)))

-- a line that says nothing
pub eol_says : (old new : List Item) → old ≡ mark tokens.EOL ∷ new
    → entries_ahead old ≡ entries_ahead new >>= (λ others. Ok (entry_before None others))
eol_says old new e = ap entries_ahead e ∙ first_says (mark tokens.EOL) new

-- a line that begins with what may not stand there
pub start_refused : (xs : List Item) (e : ParseError) → token_refusal xs ≡ Some e → entries_ahead xs ≡ Err e
start_refused [] e h = absurd (cc)
start_refused (word text ∷ rest) e h = absurd (cc)
start_refused (mark tokens.Blank ∷ rest) e h = absurd (cc)
start_refused (mark (tokens.CharData text) ∷ rest) e h = first_says (mark (tokens.CharData text)) rest ∙ as_err _ e h
start_refused (mark tokens.EOL ∷ rest) e h = absurd (cc)
start_refused (mark tokens.At ∷ rest) e h = first_says (mark tokens.At) rest ∙ as_err _ e h
start_refused (mark tokens.Include ∷ rest) e h = first_says (mark tokens.Include) rest ∙ as_err _ e h
start_refused (mark tokens.Origin ∷ rest) e h = first_says (mark tokens.Origin) rest ∙ as_err _ e h
start_refused (mark tokens.Ttl ∷ rest) e h = first_says (mark tokens.Ttl) rest ∙ as_err _ e h
start_refused (mark tokens.List ∷ rest) e h = first_says (mark tokens.List) rest ∙ as_err _ e h
start_refused (fault c ∷ rest) e h = first_says (fault c) rest ∙ as_err _ e h

-- ---- texts

-- entries that were read before others
abbrev pub after : List EntryData → Result (List EntryData) ParseError → Result (List EntryData) ParseError
after met others = others >>= (λ more. Ok (met ++ more))

after_more : (met : List EntryData) (entry : Option EntryData) (r : Result (List EntryData) ParseError)
    → after met (r >>= (λ others. Ok (entry_before entry others))) ≡ after (met ++ entry_before entry []) r
after_more met None (Ok others) = ap (λ xs. Ok (xs ++ others)) (sym (append-nil met))
after_more met None (Err e) = refl
after_more met (Some entry) (Ok others) = ap Ok (simp append_assoc)
after_more met (Some entry) (Err e) = refl

-- one line more
pub entries_more : (met longer : List EntryData) (entry : Option EntryData) (old new whole : List Item)
    → after met (entries_ahead old) ≡ entries_ahead whole
    → entries_ahead old ≡ entries_ahead new >>= (λ others. Ok (entry_before entry others))
    → longer ≡ met ++ entry_before entry []
    → after longer (entries_ahead new) ≡ entries_ahead whole
entries_more met longer entry old new whole before step is =
    ap (λ m. after m (entries_ahead new)) is
    ∙ (sym (after_more met entry (entries_ahead new)) ∙ (ap (after met) (sym step) ∙ before))

pub entries_end : (met : List EntryData) (old whole : List Item) → after met (entries_ahead old) ≡ entries_ahead whole
    → old ≡ [] → entries_ahead whole ≡ Ok met
entries_end met old whole before e =
    sym before ∙ (ap (λ xs. after met (entries_ahead xs)) e ∙ ap Ok (append-nil met))

pub entries_refused : (met : List EntryData) (old whole : List Item) (e : ParseError)
    → after met (entries_ahead old) ≡ entries_ahead whole → entries_ahead old ≡ Err e → entries_ahead whole ≡ Err e
entries_refused met old whole e before is = sym before ∙ ap (after met) is

pub entries_begin : (whole : List Item) → after [] (entries_ahead whole) ≡ entries_ahead whole
entries_begin whole = same_result (entries_ahead whole)
