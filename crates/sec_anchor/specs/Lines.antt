-- What is read of the items that are left, by the line that they begin with.
use Rattle.std.specs.Prelude.{◌≡◌, ◌⊎◌, ◌<◌, length, ℕ, List, [], ◌∷◌, ◌++◌, if◌then◌else◌, Option, Some, None}
use Rattle.std.specs.Prelude.{Result, Ok, Err}
use Rattle.std.specs.Option.{option_map}
use Rattle.std.specs.declared.string.String.{String}
use Rattle.std.specs.String.{string_bytes}
use Rattle.dns_wire.specs.Reading.{◌>>=◌}
use Rattle.dns_lexer.specs.declared.lex_error.LexError.{LexError}
use Rattle.dns_lexer.specs.declared.lex_error.LexError.TheVariants as lexed
use Rattle.dns_lexer.specs.declared.lex_token.LexToken.TheVariants as tokens
use Rattle.dns_lexer.specs.Tokens.{Item, word, mark, fault, item_of, items_left}
use Rattle.sec_anchor.specs.declared.parser.Parser.{Parser}
use Rattle.sec_anchor.specs.declared.entry.Entry.{Entry}
use Rattle.sec_anchor.specs.declared.token.Token.{Token}
use Rattle.sec_anchor.specs.declared.parse_error.ParseError.{ParseError}
use Rattle.sec_anchor.specs.declared.parse_error.ParseError.TheVariants as errors
use Rattle.sec_anchor.specs.AnchorTokens.{lex_token}
use Rattle.sec_anchor.specs.Entries.{entry_data, entry_before, entries_ahead, is_eol, words_ahead, spaced}
use Rattle.sec_anchor.specs.Entries.{LineSays}

-- the cause that a lexer's refusal is
abbrev pub lex_cause : LexError → ParseError
lex_cause (lexed.UnrecognizedChar c) = errors.UnrecognizedChar c
lex_cause lexed.OutOfMemory = errors.OutOfMemory

-- the first line, with its EOL
abbrev pub first_line : List Item → List Item
first_line [] = []
first_line (item ∷ rest) = if is_eol item then item ∷ [] else item ∷ first_line rest

-- what stands behind it
abbrev pub behind_line : List Item → List Item
behind_line [] = []
behind_line (item ∷ rest) = if is_eol item then rest else behind_line rest

-- why the next item is refused where a word is wanted
abbrev pub refusal : List Item → Option ParseError
refusal [] = None
refusal (word text ∷ rest) = None
refusal (mark token ∷ rest) = Some (errors.UnexpectedToken token)
refusal (fault c ∷ rest) = Some (errors.UnrecognizedChar c)

-- why the next token may not stand in an entry
abbrev pub token_refusal : List Item → Option ParseError
token_refusal [] = None
token_refusal (word text ∷ rest) = None
token_refusal (mark tokens.Blank ∷ rest) = None
token_refusal (mark tokens.EOL ∷ rest) = None
token_refusal (mark token ∷ rest) = Some (errors.UnexpectedToken token)
token_refusal (fault c ∷ rest) = Some (errors.UnrecognizedChar c)

-- a call took the next token, or was refused at the next item
abbrev pub TakesToken : Result (Option Token) ParseError → List Item → List Item → Type 0
TakesToken (Ok (Some token)) old new = old ≡ item_of (lex_token token) ∷ new
TakesToken (Ok None) old new = (old ≡ []) × (new ≡ [])
TakesToken (Err e) old new = (e ≡ errors.OutOfMemory) ⊎ (token_refusal old ≡ Some e)

-- a call took the next word, or was refused at the next item
abbrev pub TakesWord : {Z : Type 0} → Result (Option (String Z)) ParseError → List Item → List Item → Type 0
TakesWord (Ok (Some text)) old new = old ≡ word (string_bytes text) ∷ new
TakesWord (Ok None) old new = (old ≡ []) × (new ≡ [])
TakesWord (Err e) old new = (e ≡ errors.OutOfMemory) ⊎ (refusal old ≡ Some e)

-- a call took the next word of a line, or came to the line's end
abbrev pub TakesWordInLine : {Z : Type 0} → Result (Option (String Z)) ParseError → List Item → List Item → Type 0
TakesWordInLine (Ok (Some text)) old new = old ≡ word (string_bytes text) ∷ new
TakesWordInLine (Ok None) old new = (words_ahead (first_line old) ≡ Ok []) × (new ≡ behind_line old)
TakesWordInLine (Err e) old new = (e ≡ errors.OutOfMemory) ⊎ (words_ahead (first_line old) ≡ Err e)

-- a text, and words behind it, each behind a space
abbrev pub extended : List ℕ → Result (List (List ℕ)) ParseError → Result (List ℕ) ParseError
extended text more = more >>= (λ others. Ok (text ++ spaced others))

-- a call read a line to its end and answered a text, or was refused for its cause
abbrev pub ReadsText : {Z : Type 0} → Result (String Z) ParseError → Result (List ℕ) ParseError → List Item → List Item
    → Type 0
ReadsText (Ok text) given old new = (given ≡ Ok (string_bytes text)) × (new ≡ behind_line old)
ReadsText (Err e) given old new = (e ≡ errors.OutOfMemory) ⊎ (given ≡ Err e)

-- A call read a line to its end and answered what it says, or was refused for its cause.
abbrev pub ReadsLine : Result (Option Entry) ParseError → LineSays → List Item → List Item → Type 0
ReadsLine (Ok entry) says old new = (says ≡ Ok (option_map entry_data entry)) × (new ≡ behind_line old)
ReadsLine (Err e) says old new = (e ≡ errors.OutOfMemory) ⊎ (says ≡ Err e)

-- A call went on by a line or a blank before it, and answered what it says. There is none at the end of the text.
abbrev pub ReadsEntry : Result (Option (Option Entry)) ParseError → List Item → List Item → Type 0
ReadsEntry (Ok (Some entry)) old new =
    (entries_ahead old ≡ entries_ahead new >>= (λ others. Ok (entry_before (option_map entry_data entry) others)))
    × (length new < length old)
ReadsEntry (Ok None) old new = old ≡ []
ReadsEntry (Err e) old new = (e ≡ errors.OutOfMemory) ⊎ (entries_ahead old ≡ Err e)

-- what is left for a parser
abbrev pub items_ahead : Parser → List Item
items_ahead parser = items_left parser.lexer
