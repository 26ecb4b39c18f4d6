-- What the calls on names are answered, by the words after their own.
use Rattle.std.specs.Prelude.{ℕ, ◌+◌, ◌-◌, ◌^◌, Bool, List, ◌++◌, codes, length, drop, if◌then◌else◌, Result, Ok}
use Rattle.std.specs.declared.cmp.Ordering.{Ordering}
use Rattle.std.specs.declared.cmp.Ordering.TheVariants.{Less, Equal, Greater}
use Rattle.std.specs.Fmt.{decimal}
use Rattle.std.specs.Option.{ok_or}
use Rattle.std.specs.Str.{bytes_eq}
use Rattle.dns_text.specs.Words.{one_word, two_words, three_words}
use Rattle.dns_wire.specs.Reading.{◌>>=◌}
use Rattle.dns_names.specs.Names.{wire, same, name_cmp}
use Rattle.dns_names.specs.NameText.{name_text}
use Rattle.dns_names.specs.Places.{name_at}
use Rattle.dns_rows.specs.declared.refusal.Refusal.{Refusal}
use Rattle.dns_rows.specs.declared.refusal.Refusal.TheVariants.{NoCall}
use Rattle.dns_rows.specs.Refusals.{decode_refusal, with_refusal}
use Rattle.dns_rows.specs.Rows.{hex_word}
use Rattle.dns_rows.specs.CallWords.{name_in, octets_in, number_in}
use Rattle.dns_rows.specs.CallTexts.{yes_or_no}
use Rattle.dnsshow.specs.TypeCalls.{type_calls}

-- `name TEXT`: the wire form and the text of the name
abbrev pub name_answer : List (List ℕ) → Result (List ℕ) Refusal
name_answer others = do
  word ← ok_or (one_word others) NoCall
  name ← name_in word
  Ok (hex_word (wire name) ++ codes " " ++ name_text name)

-- `read-name PLACE END HEX`: the name at a place whose first run ends at or before the end, and the place after that
-- run (RFC 1035 section 4.1.4)
abbrev pub read_name_answer : List (List ℕ) → Result (List ℕ) Refusal
read_name_answer others = do
  w ← ok_or (three_words others) NoCall
  octets ← octets_in w.2
  end ← number_in (length octets + 1) w.1
  place ← number_in (end + 1) w.0
  found ← with_refusal decode_refusal (name_at octets place end)
  Ok (name_text found.0 ++ codes " " ++ decimal found.1)

abbrev pub ordering_text : Ordering → List ℕ
ordering_text Less = codes "less"
ordering_text Equal = codes "equal"
ordering_text Greater = codes "greater"

-- `order NAME NAME`: how the first stands to the second in the canonical order (RFC 4034 section 6.1)
abbrev pub order_answer : List (List ℕ) → Result (List ℕ) Refusal
order_answer others = do
  w ← ok_or (two_words others) NoCall
  first ← name_in w.0
  second ← name_in w.1
  Ok (ordering_text (name_cmp first second))

-- whether a name is in a zone: its last labels, as many as the zone has, are the zone, the case of letters aside
abbrev pub is_within : List (List ℕ) → List (List ℕ) → Bool
is_within zone name = same (drop (length name - length zone) name) zone

-- `within ZONE NAME`
abbrev pub within_answer : List (List ℕ) → Result (List ℕ) Refusal
within_answer others = do
  w ← ok_or (two_words others) NoCall
  zone ← name_in w.0
  name ← name_in w.1
  Ok (yes_or_no (is_within zone name))

-- `trim NAME N`: the last labels of a name, so many, or all where there are fewer
abbrev pub trim_answer : List (List ℕ) → Result (List ℕ) Refusal
trim_answer others = do
  w ← ok_or (two_words others) NoCall
  name ← name_in w.0
  count ← number_in (2 ^ 16) w.1
  Ok (name_text (drop (length name - count) name))

-- the calls on names, and then the others
abbrev pub name_calls : List ℕ → List (List ℕ) → Result (List ℕ) Refusal
name_calls word others =
    if bytes_eq word (codes "name") then name_answer others
    else if bytes_eq word (codes "read-name") then read_name_answer others
    else if bytes_eq word (codes "order") then order_answer others
    else if bytes_eq word (codes "within") then within_answer others
    else if bytes_eq word (codes "trim") then trim_answer others
    else type_calls word others
