-- The tokens of anchor text, whose words, comments and lines are those of zone files (RFC 1035 5.1).
use Rattle.std.specs.Prelude.{◌≡◌, ℕ, zero, suc, ◌+◌, ◌-◌, List, [], ◌∷◌, take, Bool, false, ◌&&◌, not}
use Rattle.std.specs.Prelude.{nat_eq, nat_lt}
use Rattle.std.specs.Prelude.{if◌then◌else◌, codes, slice_index, Option, Some, None, Result, Ok, Err}
use Rattle.std.specs.Char.{is_ascii_graphic}
use Rattle.std.specs.List.{list_any, position_or_len}
use Rattle.std.specs.Str.{chars, bytes_eq}
use Rattle.std.specs.String.{string_bytes}
use Rattle.dns_text.specs.Words.{is_blank, is_line_feed, carriage_return}
use Rattle.dns_lexer.specs.declared.lexer.Lexer.{Lexer}
use Rattle.dns_lexer.specs.declared.lex_error.LexError.{LexError}
use Rattle.dns_lexer.specs.declared.lex_error.LexError.TheVariants as errors
use Rattle.dns_lexer.specs.declared.lex_token.LexToken.{LexToken}
use Rattle.dns_lexer.specs.declared.lex_token.LexToken.TheVariants as tokens

-- ---- words

-- the codes of characters with a meaning
abbrev pub backslash : ℕ
backslash = 92

abbrev pub semicolon : ℕ
semicolon = 59

abbrev pub dollar : ℕ
dollar = 36

abbrev pub is_parenthesis : ℕ → Bool
is_parenthesis c = list_any (nat_eq c) (codes "()")

-- the characters 33 to 126 that stand in a word only behind a backslash, and the backslash
abbrev pub is_special : ℕ → Bool
is_special c = list_any (nat_eq c) (codes ";()\"\\")

-- a character that stands for itself in a word
abbrev pub is_plain : ℕ → Bool
is_plain c = is_ascii_graphic c && not (is_special c)

-- How many characters a text begins with that a word may have next: one that stands for itself, or a backslash and
-- another one from 33 to 126, whatever it is.
abbrev pub unit_len : List ℕ → ℕ
unit_len [] = 0
unit_len (c ∷ []) = if is_plain c then 1 else 0
unit_len (c ∷ next ∷ rest) =
    if nat_eq c backslash then (if is_ascii_graphic next then 2 else 0)
    else if is_plain c then 1
    else 0

-- How many characters the word has that a text begins with, its backslashes counted. So many are counted in any case,
-- which belong to the unit before.
unfoldable pub word_len_behind : (counted : ℕ) → List ℕ → ℕ
word_len_behind counted [] = 0
word_len_behind (suc counted) (c ∷ rest) = 1 + word_len_behind counted rest
word_len_behind zero (c ∷ rest) =
    if nat_lt 0 (unit_len (c ∷ rest)) then 1 + word_len_behind (unit_len (c ∷ rest) - 1) rest else 0

abbrev pub word_len : List ℕ → ℕ
word_len = word_len_behind 0

-- ---- tokens

-- what stands in a text
pub data Item : Type 0 where
  -- a word of these octets, `CharData`
  word : List ℕ → Item
  -- a token that holds no octets
  mark : LexToken → Item
  -- a character that no token begins with; nothing is read behind it
  fault : ℕ → Item

-- the item that a word is: `$` begins none but three words
abbrev pub word_item : List ℕ → Item
word_item text =
    if bytes_eq text (codes "@") then mark tokens.At
    else if bytes_eq text (codes "$INCLUDE") then mark tokens.Include
    else if bytes_eq text (codes "$ORIGIN") then mark tokens.Origin
    else if bytes_eq text (codes "$TTL") then mark tokens.Ttl
    else if nat_eq (slice_index text 0) dollar then fault dollar
    else word text

-- an item and those behind it, of which a fault has none
abbrev pub item_before : Item → List Item → List Item
item_before (fault c) behind = fault c ∷ []
item_before item behind = item ∷ behind

-- whether a text begins with such a character
abbrev pub begins : (ℕ → Bool) → List ℕ → Bool
begins p [] = false
begins p (c ∷ rest) = p c

-- at the start of a line, blanks are a token
abbrev pub line_start : List ℕ → List Item → List Item
line_start text behind = if begins is_blank text then mark tokens.Blank ∷ behind else behind

-- How many octets between tokens a text begins with: a blank; a carriage return before a line feed; a comment, up to
-- the line feed behind it or the text's end.
abbrev pub gap_len : List ℕ → ℕ
gap_len [] = 0
gap_len (c ∷ rest) =
    if is_blank c then 1
    else if nat_eq c carriage_return && begins is_line_feed rest then 1
    else if nat_eq c semicolon then 1 + position_or_len is_line_feed rest
    else 0

-- The items of a text that does not begin at the start of a line, up to the first fault. So many octets are skipped,
-- which belong to the word or the gap before.
unfoldable pub items_behind : (skipped : ℕ) → List ℕ → List Item
items_behind skipped [] = []
items_behind (suc skipped) (c ∷ rest) = items_behind skipped rest
items_behind zero (c ∷ rest) =
    if nat_lt 0 (word_len (c ∷ rest))
    then item_before (word_item (take (word_len (c ∷ rest)) (c ∷ rest))) (items_behind (word_len (c ∷ rest) - 1) rest)
    else if nat_lt 0 (gap_len (c ∷ rest)) then items_behind (gap_len (c ∷ rest) - 1) rest
    else if is_line_feed c then mark tokens.EOL ∷ line_start rest (items_behind 0 rest)
    else if is_parenthesis c then mark tokens.List ∷ items_behind 0 rest
    else fault (slice_index (chars (c ∷ rest)) 0) ∷ []

-- the items of a text, up to the first fault
abbrev pub items : List ℕ → List Item
items text = line_start text (items_behind 0 text)

-- ---- what a lexer answers

-- the item that a token is
abbrev pub item_of : LexToken → Item
item_of (tokens.CharData text) = word (string_bytes text)
item_of token = mark token

-- what is left for a lexer
abbrev pub items_left : Lexer → List Item
items_left lexer = if lexer.starts_line then items lexer.rest.now else items_behind 0 lexer.rest.now

-- One item is taken, none exactly where there is none. At a fault and for want of memory the lexer stays where it is.
abbrev pub Takes : Result (Option LexToken) LexError → Lexer → Lexer → Type 0
Takes (Ok (Some token)) old new = items_left old ≡ item_of token ∷ items_left new
Takes (Ok None) old new = (items_left old ≡ []) × (new ≡ old)
Takes (Err (errors.UnrecognizedChar c)) old new = (items_left old ≡ fault c ∷ []) × (new ≡ old)
Takes (Err errors.OutOfMemory) old new = new ≡ old
