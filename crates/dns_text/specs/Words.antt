-- The lines of a script, and the words, numbers and octets in them.
use Rattle.std.specs.Prelude.{ℕ, Bool, true, ◌||◌, ◌&&◌, not, ◌-◌, List, [], ◌∷◌, length, take, drop, filter, find}
use Rattle.std.specs.Prelude.{codes, slice_index, nat_lt, ◌==◌, if◌then◌else◌, Option, Some, None}
use Rattle.std.specs.Char.{is_ascii_digit, is_ascii_graphic}
use Rattle.std.specs.List.{onto_first, slice_split, list_all, position_or_len, after_first}
use Rattle.std.specs.Option.{option_and_then, option_map_or}
use Rattle.std.specs.Result.{result_ok}
use Rattle.std.specs.Str.{bytes_eq}
use Rattle.std.specs.Str.Parse.{digits_value}
use Rattle.hex.specs.Hex.{decode_of}

abbrev pub tab : ℕ
tab = 9

abbrev pub line_feed : ℕ
line_feed = 10

abbrev pub carriage_return : ℕ
carriage_return = 13

abbrev pub space : ℕ
space = 32

abbrev pub number_sign : ℕ
number_sign = 35

abbrev pub is_line_feed : ℕ → Bool
is_line_feed octet = octet == line_feed

abbrev pub is_blank : ℕ → Bool
is_blank octet = octet == space || octet == tab

-- a blank, or an ASCII character that is seen
abbrev pub is_text : ℕ → Bool
is_text octet = is_ascii_graphic octet || is_blank octet

-- The octets are cut at line feeds. A final empty piece is no line.
abbrev pub lines : List ℕ → List (List ℕ)
lines [] = []
lines (octet ∷ octets) = if is_line_feed octet then [] ∷ lines octets else onto_first octet (lines octets)

-- One carriage return at a line's end is dropped.
abbrev pub without_return : List ℕ → List ℕ
without_return line = if slice_index line (length line - 1) == carriage_return then take (length line - 1) line
    else line

-- A line of blanks alone, or whose first other octet is `#`, is skipped.
abbrev pub is_skipped : List ℕ → Bool
is_skipped line = option_map_or (λ octet. octet == number_sign) (find (λ octet. not (is_blank octet)) line) true

-- Words are separated by blanks.
abbrev pub words : List ℕ → List (List ℕ)
words line = filter (λ word. nat_lt 0 (length word)) (slice_split is_blank line)

-- a line without the blanks before its first word
abbrev pub from_word : List ℕ → List ℕ
from_word line = drop (position_or_len (λ octet. not (is_blank octet)) line) line

-- what stands behind a line's first word and the blank that ends it
abbrev pub behind_word : List ℕ → List ℕ
behind_word line = after_first is_blank (from_word line)

abbrev pub one_word : List (List ℕ) → Option (List ℕ)
one_word (a ∷ []) = Some a
one_word _ = None

abbrev pub two_words : List (List ℕ) → Option (List ℕ × List ℕ)
two_words (a ∷ b ∷ []) = Some (a, b)
two_words _ = None

abbrev pub three_words : List (List ℕ) → Option (List ℕ × List ℕ × List ℕ)
three_words (a ∷ b ∷ c ∷ []) = Some (a, b, c)
three_words _ = None

abbrev pub four_words : List (List ℕ) → Option (List ℕ × List ℕ × List ℕ × List ℕ)
four_words (a ∷ b ∷ c ∷ d ∷ []) = Some (a, b, c, d)
four_words _ = None

-- A number is decimal digits, at least one. Leading zeros are allowed.
abbrev pub number_of : List ℕ → Option ℕ
number_of word = if nat_lt 0 (length word) && list_all is_ascii_digit word then Some (digits_value 10 word) else None

abbrev pub number_below : ℕ → List ℕ → Option ℕ
number_below end word = option_and_then (λ number. if nat_lt number end then Some number else None) (number_of word)

-- Octets are an even number of hexadecimal digits of either case, or `-`, which is none.
abbrev pub decode_hex : List ℕ → Option (List ℕ)
decode_hex word = if bytes_eq word (codes "-") then Some [] else result_ok (decode_of word)
