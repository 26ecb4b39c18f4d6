-- What the calls on anchor texts are answered, by the words after their own.
use Rattle.std.specs.Prelude.{ℕ, List, ◌++◌, codes, map, if◌then◌else◌, Result, Ok}
use Rattle.std.specs.Fmt.{decimal}
use Rattle.std.specs.Option.{ok_or, option_map_or}
use Rattle.std.specs.Str.{bytes_eq}
use Rattle.dns_text.specs.Words.{one_word}
use Rattle.dns_wire.specs.Reading.{◌>>=◌}
use Rattle.dns_names.specs.NameText.{name_text}
use Rattle.dns_types.specs.Codes.{class_text}
use Rattle.sec_keydata.specs.DnsKeys.{dnskey_text}
use Rattle.sec_anchor.specs.Entries.{EntryData, entries_of, joined}
use Rattle.dns_rows.specs.declared.refusal.Refusal.{Refusal}
use Rattle.dns_rows.specs.declared.refusal.Refusal.TheVariants.{NoCall}
use Rattle.dns_rows.specs.Refusals.{anchor_refusal, with_refusal}
use Rattle.dns_rows.specs.CallWords.{octets_in, text_in}
use Rattle.dns_rows.specs.CallTexts.{separated}
use Rattle.dnsshow.specs.DataCalls.{data_calls}

-- an entry as a line of a zone file has it, and `-` where it has no TTL
abbrev pub entry_text : EntryData → List ℕ
entry_text entry =
    name_text entry.name ++ codes " " ++ option_map_or decimal entry.ttl (codes "-") ++ codes " "
    ++ class_text entry.dns_class ++ codes " DNSKEY " ++ dnskey_text entry.dnskey

-- the entries of a text
abbrev pub entries_answer : List ℕ → Result (List ℕ) Refusal
entries_answer octets = do
  text ← text_in octets
  entries ← with_refusal anchor_refusal (entries_of text)
  Ok (separated (codes " | ") (map entry_text entries))

-- `anchor TEXT`: the entries of the line of these words, with a space between each two
abbrev pub anchor_answer : List (List ℕ) → Result (List ℕ) Refusal
anchor_answer others = entries_answer (joined others)

-- `anchors HEX`: the entries of a text
abbrev pub anchors_answer : List (List ℕ) → Result (List ℕ) Refusal
anchors_answer others = do
  word ← ok_or (one_word others) NoCall
  octets ← octets_in word
  entries_answer octets

-- the calls on anchor texts, and then the others
abbrev pub anchor_calls : List ℕ → List (List ℕ) → Result (List ℕ) Refusal
anchor_calls word others =
    if bytes_eq word (codes "anchor") then anchor_answer others
    else if bytes_eq word (codes "anchors") then anchors_answer others
    else data_calls word others
