-- What the calls on texts of octets, numbers and tokens are answered, by the words after their own.
use Rattle.std.specs.Prelude.{ℕ, ◌-◌, ◌^◌, List, [], ◌∷◌, ◌++◌, codes, if◌then◌else◌, Result, Ok, Err}
use Rattle.std.specs.Fmt.{decimal}
use Rattle.std.specs.Option.{ok_or}
use Rattle.std.specs.Str.{bytes_eq}
use Rattle.base64.specs.Engines.{standard}
use Rattle.base64.specs.GeneralPurpose.{encode_of}
use Rattle.dns_text.specs.Words.{one_word, two_words, number_below}
use Rattle.dns_wire.specs.Reading.{◌>>=◌}
use Rattle.dns_lexer.specs.declared.lex_error.LexError.TheVariants.{UnrecognizedChar}
use Rattle.dns_lexer.specs.ErrorTexts.{lex_token_text}
use Rattle.dns_lexer.specs.Tokens.{Item, word, mark, fault, items}
use Rattle.dns_lexer.specs.Ttls.{ttl_of}
use Rattle.sec_digest.specs.Base32.{base32}
use Rattle.dns_rows.specs.declared.refusal.Refusal.{Refusal}
use Rattle.dns_rows.specs.declared.refusal.Refusal.TheVariants.{NoCall, Lex}
use Rattle.dns_rows.specs.CallWords.{octets_in, number_in, text_in}
use Rattle.dns_rows.specs.CallTexts.{text_or_none, text_or_dash, separated}
use Rattle.dnsshow.specs.AnchorCalls.{anchor_calls}

-- `base32 HEX`: octets as DNSSEC writes hashed names (RFC 5155 section 3.3)
abbrev pub base32_answer : List (List ℕ) → Result (List ℕ) Refusal
base32_answer others = do
  only ← ok_or (one_word others) NoCall
  octets ← octets_in only
  Ok (text_or_dash (base32 octets))

-- `base64 HEX` (RFC 4648 section 4)
abbrev pub base64_answer : List (List ℕ) → Result (List ℕ) Refusal
base64_answer others = do
  only ← ok_or (one_word others) NoCall
  octets ← octets_in only
  Ok (text_or_dash (encode_of standard octets))

-- `number END WORD`: the number below the end that the word's digits write
abbrev pub number_answer : List (List ℕ) → Result (List ℕ) Refusal
number_answer others = do
  w ← ok_or (two_words others) NoCall
  end ← number_in (2 ^ 64 - 1) w.0
  Ok (text_or_none decimal (number_below end w.1))

-- `ttl WORD`: the seconds of a time to live
abbrev pub ttl_answer : List (List ℕ) → Result (List ℕ) Refusal
ttl_answer others = do
  only ← ok_or (one_word others) NoCall
  text ← text_in only
  Ok (text_or_none decimal (ttl_of text))

-- what the tokens of items print, or the fault among them
abbrev pub token_texts : List Item → Result (List (List ℕ)) Refusal
token_texts [] = Ok []
token_texts (word text ∷ others) = do
  rest ← token_texts others
  Ok ((codes "CharData " ++ text) ∷ rest)
token_texts (mark token ∷ others) = do
  rest ← token_texts others
  Ok (lex_token_text token ∷ rest)
token_texts (fault c ∷ others) = Err (Lex (UnrecognizedChar c))

-- `lex HEX`: the tokens of a text
abbrev pub lex_answer : List (List ℕ) → Result (List ℕ) Refusal
lex_answer others = do
  only ← ok_or (one_word others) NoCall
  octets ← octets_in only
  text ← text_in octets
  tokens ← token_texts (items text)
  Ok (separated (codes ", ") tokens)

-- the calls on texts, and then the others
abbrev pub text_calls : List ℕ → List (List ℕ) → Result (List ℕ) Refusal
text_calls call others =
    if bytes_eq call (codes "base32") then base32_answer others
    else if bytes_eq call (codes "base64") then base64_answer others
    else if bytes_eq call (codes "number") then number_answer others
    else if bytes_eq call (codes "ttl") then ttl_answer others
    else if bytes_eq call (codes "lex") then lex_answer others
    else anchor_calls call others
