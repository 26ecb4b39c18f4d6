-- What the calls on record data are answered, by the words after their own.
use Rattle.std.specs.Prelude.{ℕ, ◌+◌, ◌^◌, List, codes, length, if◌then◌else◌, Option, Result, Ok}
use Rattle.std.specs.Option.{ok_or}
use Rattle.std.specs.Str.{bytes_eq}
use Rattle.dns_text.specs.Words.{two_words, four_words}
use Rattle.dns_wire.specs.Reading.{◌>>=◌}
use Rattle.dns_grammar.specs.Fields.{Value}
use Rattle.dns_grammar.specs.RecordData.{rdata_at, plain, canon}
use Rattle.dns_rdata.specs.RDataTable.{rdata_table}
use Rattle.dns_rdata.specs.DataText.{data_text}
use Rattle.dns_rows.specs.declared.refusal.Refusal.{Refusal}
use Rattle.dns_rows.specs.declared.refusal.Refusal.TheVariants.{NoCall}
use Rattle.dns_rows.specs.Refusals.{decode_refusal, emit_refusal, with_refusal}
use Rattle.dns_rows.specs.Rows.{hex_word}
use Rattle.dns_rows.specs.CallWords.{type_in, number_in, octets_in, data_octets_in}
use Rattle.dnsshow.specs.KeyCalls.{key_calls}

-- the data of a record of this type that stand in octets, so many from a place, with the type
abbrev pub data_at : ℕ → List ℕ → ℕ → ℕ → Result (ℕ × Option (List Value)) Refusal
data_at rtype octets place len = do
  rdata ← with_refusal decode_refusal (rdata_at rdata_table octets place len rtype)
  Ok (rtype, rdata.0)

-- `TYPE HEX`: the data that are all the octets
abbrev pub typed_data : List (List ℕ) → Result (ℕ × Option (List Value)) Refusal
typed_data others = do
  w ← ok_or (two_words others) NoCall
  rtype ← type_in w.0
  octets ← data_octets_in w.1
  data_at rtype octets.0 0 octets.1

-- `rdata TYPE HEX`: the text of the data
abbrev pub rdata_answer : List (List ℕ) → Result (List ℕ) Refusal
rdata_answer others = do
  rdata ← typed_data others
  Ok (data_text rdata.0 rdata.1)

-- `check TYPE HEX`
abbrev pub check_answer : List (List ℕ) → Result (List ℕ) Refusal
check_answer others = do
  _ ← typed_data others
  Ok (codes "ok")

-- `canonical TYPE HEX`: the canonical octets (RFC 4034 section 6.2)
abbrev pub canonical_answer : List (List ℕ) → Result (List ℕ) Refusal
canonical_answer others = do
  rdata ← typed_data others
  octets ← with_refusal emit_refusal (canon rdata_table rdata.0 rdata.1)
  Ok (hex_word octets)

-- `plain TYPE HEX`: the octets as they are written, names and all
abbrev pub plain_answer : List (List ℕ) → Result (List ℕ) Refusal
plain_answer others = do
  rdata ← typed_data others
  octets ← with_refusal emit_refusal (plain rdata_table rdata.0 rdata.1)
  Ok (hex_word octets)

-- `at TYPE PLACE LENGTH HEX`: the text of data that stand in a longer string, whose names may point into it
abbrev pub at_answer : List (List ℕ) → Result (List ℕ) Refusal
at_answer others = do
  w ← ok_or (four_words others) NoCall
  rtype ← type_in w.0
  octets ← octets_in w.3
  place ← number_in (length octets + 1) w.1
  len ← number_in (2 ^ 16) w.2
  rdata ← data_at rtype octets place len
  Ok (data_text rdata.0 rdata.1)

-- the calls on record data, and then the others
abbrev pub data_calls : List ℕ → List (List ℕ) → Result (List ℕ) Refusal
data_calls word others =
    if bytes_eq word (codes "rdata") then rdata_answer others
    else if bytes_eq word (codes "check") then check_answer others
    else if bytes_eq word (codes "canonical") then canonical_answer others
    else if bytes_eq word (codes "plain") then plain_answer others
    else if bytes_eq word (codes "at") then at_answer others
    else key_calls word others
