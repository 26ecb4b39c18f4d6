-- The words of a call, each as what it writes, or why it writes nothing.
use Rattle.std.specs.Prelude.{ℕ, ◌^◌, List, ◌∷◌, length, nat_lt, if◌then◌else◌, Result, Ok, Err}
use Rattle.std.specs.Option.{ok_or}
use Rattle.std.specs.Str.{is_utf8}
use Rattle.dns_text.specs.Words.{number_below, decode_hex}
use Rattle.dns_wire.specs.Reading.{◌>>=◌}
use Rattle.dns_names.specs.NameText.{name_from_text}
use Rattle.dns_types.specs.Codes.{class_of, type_of}
use Rattle.dns_rows.specs.declared.refusal.Refusal.{Refusal}
use Rattle.dns_rows.specs.declared.refusal.Refusal.TheVariants.{NoCall}
use Rattle.dns_rows.specs.Refusals.{name_refusal, with_refusal}

-- the first four words, and the words after them
abbrev pub first_four : List (List ℕ) → Result (List ℕ × List ℕ × List ℕ × List ℕ × List (List ℕ)) Refusal
first_four (a ∷ b ∷ c ∷ d ∷ others) = Ok (a, b, c, d, others)
first_four _ = Err NoCall

-- a name (RFC 1035 section 5.1)
abbrev pub name_in : List ℕ → Result (List (List ℕ)) Refusal
name_in word = with_refusal name_refusal (name_from_text word)

-- a class and a type, by mnemonic or number (RFC 3597 section 5)
abbrev pub class_in : List ℕ → Result ℕ Refusal
class_in word = ok_or (class_of word) NoCall

abbrev pub type_in : List ℕ → Result ℕ Refusal
type_in word = ok_or (type_of word) NoCall

-- a number below an end, in decimal digits
abbrev pub number_in : ℕ → List ℕ → Result ℕ Refusal
number_in end word = ok_or (number_below end word) NoCall

-- octets in hexadecimal, and none at `-`
abbrev pub octets_in : List ℕ → Result (List ℕ) Refusal
octets_in word = ok_or (decode_hex word) NoCall

-- octets and how many they are, where the data of a record can have so many (RFC 1035 section 3.2.1)
abbrev pub counted : List ℕ → Result (List ℕ × ℕ) Refusal
counted octets = if nat_lt (length octets) (2 ^ 16) then Ok (octets, length octets) else Err NoCall

-- octets that the data of a record can have, in hexadecimal
abbrev pub data_octets_in : List ℕ → Result (List ℕ × ℕ) Refusal
data_octets_in word = octets_in word >>= counted

-- octets that are text in UTF-8
abbrev pub text_in : List ℕ → Result (List ℕ) Refusal
text_in octets = if is_utf8 octets then Ok octets else Err NoCall
