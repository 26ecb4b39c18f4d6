-- The entries of an anchor text: DNSKEY records by lines, as in zone files (RFC 1035 5.1, RFC 4034 2.2).
use Rattle.std.specs.Prelude.{ℕ, List, [], ◌∷◌, ◌++◌, Bool, true, false, nat_eq, if◌then◌else◌}
use Rattle.std.specs.Prelude.{Option, Some, None, Result, Ok, Err}
use Rattle.std.specs.List.{onto_first, flat_map}
use Rattle.dns_text.specs.Words.{space}
use Rattle.dns_wire.specs.Reading.{◌>>=◌}
use Rattle.dns_wire.specs.declared.error.NameError.{NameError}
use Rattle.dns_names.specs.NameText.{name_from_text}
use Rattle.dns_types.specs.TypeNumbers as types
use Rattle.dns_types.specs.Codes.{type_of, class_of}
use Rattle.dns_lexer.specs.declared.lex_token.LexToken.TheVariants as tokens
use Rattle.dns_lexer.specs.Tokens.{Item, word, mark, fault, items}
use Rattle.dns_lexer.specs.Ttls.{ttl_of}
use Rattle.sec_keydata.specs.declared.token_error.TokenError.{TokenError}
use Rattle.sec_keydata.specs.DnsKeys.{DnsKeyData, dnskey_data}
use Rattle.sec_keydata.specs.Tokens.{token_dnskey}
use Rattle.sec_anchor.specs.declared.entry.Entry.{Entry}
use Rattle.sec_anchor.specs.declared.entry.Entry.TheVariants as entries
use Rattle.sec_anchor.specs.declared.parse_error.ParseError.{ParseError}
use Rattle.sec_anchor.specs.declared.parse_error.ParseError.TheVariants as errors

-- ---- entries

-- what a contract sees of an entry
pub record EntryData : Type 0 where
  pub name : List (List ℕ)
  pub dns_class : ℕ
  pub ttl : Option ℕ
  pub dnskey : DnsKeyData

abbrev pub entry_data : Entry → EntryData
entry_data (entries.DNSKEY r) = record {
  name = r.name_labels;
  dns_class = r.dns_class;
  ttl = r.ttl;
  dnskey = dnskey_data r.rdata;
}

-- ---- lines

abbrev pub is_eol : Item → Bool
is_eol (mark tokens.EOL) = true
is_eol _ = false

-- The items by lines. A line's EOL is its last item; the last line may have none.
abbrev pub token_lines : List Item → List (List Item)
token_lines [] = []
token_lines (item ∷ rest) = if is_eol item then (item ∷ []) ∷ token_lines rest else onto_first item (token_lines rest)

-- what a line says: an entry, nothing, or the cause of the first item that fails
abbrev pub LineSays : Type 0
LineSays = Result (Option EntryData) ParseError

-- what a line says by its next word and the items behind. A text that ends before the word says nothing.
abbrev pub by_word : List Item → (List ℕ → List Item → LineSays) → LineSays
by_word [] says = Ok None
by_word (word text ∷ rest) says = says text rest
by_word (mark token ∷ rest) says = Err (errors.UnexpectedToken token)
by_word (fault c ∷ rest) says = Err (errors.UnrecognizedChar c)

-- the words up to the end of a line or of the text
abbrev pub words_ahead : List Item → Result (List (List ℕ)) ParseError
words_ahead [] = Ok []
words_ahead (word text ∷ rest) = do
  others ← words_ahead rest
  Ok (text ∷ others)
words_ahead (mark tokens.EOL ∷ rest) = Ok []
words_ahead (mark token ∷ rest) = Err (errors.UnexpectedToken token)
words_ahead (fault c ∷ rest) = Err (errors.UnrecognizedChar c)

-- words with a space between each two
abbrev pub spaced : List (List ℕ) → List ℕ
spaced = flat_map (λ next. space ∷ next)

abbrev pub joined : List (List ℕ) → List ℕ
joined [] = []
joined (first ∷ others) = first ++ spaced others

-- the text of a key: the words ahead, joined
abbrev pub key_text : List Item → Result (List ℕ) ParseError
key_text rest = do
  all ← words_ahead rest
  Ok (joined all)

-- why a text gives no key, among the causes of entries
abbrev pub as_token : {X : Type 0} → Result X TokenError → Result X ParseError
as_token (Ok key) = Ok key
as_token (Err e) = Err (errors.Token e)

abbrev pub as_name : {X : Type 0} → Result X NameError → Result X ParseError
as_name (Ok name) = Ok name
as_name (Err e) = Err (errors.BadName e)

-- an option, or why there is none
abbrev pub or_cause : {X : Type 0} → Option X → ParseError → Result X ParseError
or_cause (Some x) cause = Ok x
or_cause None cause = Err cause

-- DNSKEY is the one type of an entry.
abbrev pub is_dnskey : ℕ → Result (Unit {0}) ParseError
is_dnskey n = if nat_eq n types.DNSKEY then Ok tt else Err (errors.UnsupportedRecordType n)

-- the type that a text names has to be DNSKEY
abbrev pub type_named : List ℕ → Result (Unit {0}) ParseError
type_named text = do
  n ← or_cause (type_of text) errors.UnknownRecordType
  is_dnskey n

-- what a line says behind its type: the words of a key, all taken before they are judged
abbrev pub behind_type : List (List ℕ) → Option ℕ → ℕ → List Item → LineSays
behind_type name ttl class rest = do
  text ← key_text rest
  key ← as_token (token_dnskey text)
  Ok (Some (record { name = name; dns_class = class; ttl = ttl; dnskey = key }))

-- what it says behind its class
abbrev pub behind_class : List (List ℕ) → Option ℕ → ℕ → List Item → LineSays
behind_class name ttl class rest =
    by_word rest (λ text behind. do
      _ ← type_named text
      behind_type name ttl class behind)

-- what it says behind its TTL
abbrev pub behind_ttl : List (List ℕ) → ℕ → List Item → LineSays
behind_ttl name ttl rest =
    by_word rest (λ text behind. do
      class ← or_cause (class_of text) errors.BadClass
      behind_class name (Some ttl) class behind)

-- a class, or else a TTL
abbrev pub by_class : List (List ℕ) → List ℕ → List Item → Option ℕ → LineSays
by_class name text rest (Some class) = behind_class name None class rest
by_class name text rest None = do
  ttl ← or_cause (ttl_of text) errors.BadTtl
  behind_ttl name ttl rest

-- what it says behind its owner
abbrev pub behind_name : List (List ℕ) → List Item → LineSays
behind_name name rest = by_word rest (λ text behind. by_class name text behind (class_of text))

-- what it says by its owner
abbrev pub by_owner : List ℕ → List Item → LineSays
by_owner text rest = do
  name ← as_name (name_from_text text)
  behind_name name rest

-- What a line says. Blanks at its start are skipped, and a line of nothing else says nothing.
abbrev pub line_says : List Item → LineSays
line_says (mark tokens.Blank ∷ rest) = line_says rest
line_says (mark tokens.EOL ∷ rest) = Ok None
line_says rest = by_word rest by_owner

-- ---- texts

-- an entry, if there is one, before others
abbrev pub entry_before : Option EntryData → List EntryData → List EntryData
entry_before None others = others
entry_before (Some entry) others = entry ∷ others

-- what lines say one behind the other, or the first cause
abbrev pub lines_say : List (List Item) → Result (List EntryData) ParseError
lines_say [] = Ok []
lines_say (line ∷ lines) = do
  entry ← line_says line
  others ← lines_say lines
  Ok (entry_before entry others)

-- the entries that items tell, or the cause of the first that fails
abbrev pub entries_ahead : List Item → Result (List EntryData) ParseError
entries_ahead all = lines_say (token_lines all)

-- the entries of a text, or the cause of the first token that fails
abbrev pub entries_of : List ℕ → Result (List EntryData) ParseError
entries_of text = entries_ahead (items text)
