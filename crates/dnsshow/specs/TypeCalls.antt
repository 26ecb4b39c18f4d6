-- What the calls on types, classes and sets of types are answered, by the words after their own.
use Rattle.std.specs.Prelude.{ℕ, List, [], ◌∷◌, ◌++◌, codes, length, map, if◌then◌else◌, Result, Ok}
use Rattle.std.specs.Fmt.{decimal}
use Rattle.std.specs.Option.{ok_or}
use Rattle.std.specs.Str.{bytes_eq}
use Rattle.dns_text.specs.Words.{one_word}
use Rattle.dns_wire.specs.Reading.{◌>>=◌}
use Rattle.dns_types.specs.Codes.{type_of, type_text, class_of, class_text}
use Rattle.dns_types.specs.TypeSets.{types, types_at, is_one_of, form_of}
use Rattle.dns_rows.specs.declared.refusal.Refusal.{Refusal}
use Rattle.dns_rows.specs.declared.refusal.Refusal.TheVariants.{NoCall}
use Rattle.dns_rows.specs.Refusals.{decode_refusal, with_refusal}
use Rattle.dns_rows.specs.Rows.{hex_word}
use Rattle.dns_rows.specs.CallWords.{octets_in, type_in}
use Rattle.dns_rows.specs.CallTexts.{text_or_none, separated}
use Rattle.dnsshow.specs.CodeCalls.{code_calls}

-- a number, and the text of the type or class that has it
abbrev pub numbered : (ℕ → List ℕ) → ℕ → List ℕ
numbered text number = decimal number ++ codes " " ++ text number

-- `type WORD`: the type that the word names (RFC 3597 section 5)
abbrev pub type_answer : List (List ℕ) → Result (List ℕ) Refusal
type_answer others = do
  word ← ok_or (one_word others) NoCall
  Ok (text_or_none (numbered type_text) (type_of word))

-- `class WORD`: the class that the word names (RFC 3597 section 5)
abbrev pub class_answer : List (List ℕ) → Result (List ℕ) Refusal
class_answer others = do
  word ← ok_or (one_word others) NoCall
  Ok (text_or_none (numbered class_text) (class_of word))

-- the types that words name
abbrev pub types_named : List (List ℕ) → Result (List ℕ) Refusal
types_named [] = Ok []
types_named (word ∷ others) = do
  first ← type_in word
  rest ← types_named others
  Ok (first ∷ rest)

-- `types WORD..`: the bitmap of these types (RFC 4034 section 4.1.2)
abbrev pub types_answer : List (List ℕ) → Result (List ℕ) Refusal
types_answer others = do
  named ← types_named others
  Ok (hex_word (form_of (is_one_of named)))

-- `bitmap HEX`: the types of a bitmap, ascending
abbrev pub bitmap_answer : List (List ℕ) → Result (List ℕ) Refusal
bitmap_answer others = do
  word ← ok_or (one_word others) NoCall
  octets ← octets_in word
  set ← with_refusal decode_refusal (types_at octets 0 (length octets))
  Ok (separated (codes " ") (map type_text (types set.0)))

-- the calls on types, and then the others
abbrev pub type_calls : List ℕ → List (List ℕ) → Result (List ℕ) Refusal
type_calls word others =
    if bytes_eq word (codes "type") then type_answer others
    else if bytes_eq word (codes "class") then class_answer others
    else if bytes_eq word (codes "types") then types_answer others
    else if bytes_eq word (codes "bitmap") then bitmap_answer others
    else code_calls word others
