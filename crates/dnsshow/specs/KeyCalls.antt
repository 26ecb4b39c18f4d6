-- What the calls on the records of keys are answered, by the words after their own.
use Rattle.std.specs.Prelude.{false, ℕ, ◌^◌, List, codes, if◌then◌else◌, Result, Ok}
use Rattle.std.specs.Fmt.{decimal}
use Rattle.std.specs.Option.{ok_or}
use Rattle.std.specs.Str.{bytes_eq}
use Rattle.dns_text.specs.Words.{one_word, three_words}
use Rattle.dns_wire.specs.Reading.{◌>>=◌}
use Rattle.dns_grammar.specs.Fields.{fields_octets}
use Rattle.sec_digest.specs.Digests.{digest_type}
use Rattle.sec_keydata.specs.KeyRows.{dnskey_row, ds_row}
use Rattle.sec_keydata.specs.DnsKeys.{dnskey_values}
use Rattle.sec_keydata.specs.DsData.{ds_values, ds_text}
use Rattle.sec_keydata.specs.KeyTags.{dnskey_tag}
use Rattle.sec_keydata.specs.KeyDigests.{ds_digest, covered}
use Rattle.sec_keydata.specs.Tokens.{token_dnskey, token_ds}
use Rattle.sec_anchor.specs.Entries.{joined}
use Rattle.dns_rows.specs.declared.refusal.Refusal.{Refusal}
use Rattle.dns_rows.specs.declared.refusal.Refusal.TheVariants.{NoCall}
use Rattle.dns_rows.specs.Refusals.{emit_refusal, key_data_refusal, token_refusal, with_refusal}
use Rattle.dns_rows.specs.Rows.{hex_word}
use Rattle.dns_rows.specs.CallTexts.{yes_or_no}
use Rattle.dns_rows.specs.CallWords.{name_in, number_in, text_in}
use Rattle.dns_rows.specs.KeyWords.{key_in, ds_in}
use Rattle.dnsshow.specs.MessageCalls.{message_calls}

-- `dnskey WORD..`: the octets of the data that the words of a zone file write (RFC 4034 section 2.2)
abbrev pub dnskey_answer : List (List ℕ) → Result (List ℕ) Refusal
dnskey_answer others = do
  text ← text_in (joined others)
  key ← with_refusal token_refusal (token_dnskey text)
  octets ← with_refusal emit_refusal (fields_octets false dnskey_row (dnskey_values key))
  Ok (hex_word octets)

-- `ds WORD..`: the octets of the data that the words of a zone file write (RFC 4034 section 5.3)
abbrev pub ds_answer : List (List ℕ) → Result (List ℕ) Refusal
ds_answer others = do
  text ← text_in (joined others)
  ds ← with_refusal token_refusal (token_ds text)
  octets ← with_refusal emit_refusal (fields_octets false ds_row (ds_values ds))
  Ok (hex_word octets)

-- `tag HEX`: the tag of a key (RFC 4034 appendix B)
abbrev pub tag_answer : List (List ℕ) → Result (List ℕ) Refusal
tag_answer others = do
  word ← ok_or (one_word others) NoCall
  key ← key_in word
  tag ← with_refusal key_data_refusal (dnskey_tag key)
  Ok (decimal tag)

-- `digest NAME HEX NUMBER`: the digest of a key at its owner, by the digest type of this number (RFC 4034 section
-- 5.1.4)
abbrev pub digest_answer : List (List ℕ) → Result (List ℕ) Refusal
digest_answer others = do
  w ← ok_or (three_words others) NoCall
  name ← name_in w.0
  number ← number_in (2 ^ 8) w.2
  key ← key_in w.1
  octets ← with_refusal key_data_refusal (ds_digest name key (digest_type number))
  Ok (hex_word octets)

-- `ds-of NAME HEX NUMBER`: the text of the data of the DS record of a key at its owner, whatever flags the key has (RFC
-- 4034 section 5.4)
abbrev pub ds_of_answer : List (List ℕ) → Result (List ℕ) Refusal
ds_of_answer others = do
  w ← ok_or (three_words others) NoCall
  name ← name_in w.0
  number ← number_in (2 ^ 8) w.2
  key ← key_in w.1
  tag ← with_refusal key_data_refusal (dnskey_tag key)
  octets ← with_refusal key_data_refusal (ds_digest name key (digest_type number))
  Ok (ds_text (record {
    key_tag = tag;
    algorithm = key.public_key.algorithm;
    digest_type = digest_type number;
    digest = octets;
  }))

-- `covers NAME DS KEY`: whether a DS covers a key at its owner (RFC 4034 section 5.2)
abbrev pub covers_answer : List (List ℕ) → Result (List ℕ) Refusal
covers_answer others = do
  w ← ok_or (three_words others) NoCall
  name ← name_in w.0
  ds ← ds_in w.1
  key ← key_in w.2
  covers ← with_refusal key_data_refusal (covered name ds key)
  Ok (yes_or_no covers)

-- the calls on the records of keys, and then the others
abbrev pub key_calls : List ℕ → List (List ℕ) → Result (List ℕ) Refusal
key_calls word others =
    if bytes_eq word (codes "dnskey") then dnskey_answer others
    else if bytes_eq word (codes "ds") then ds_answer others
    else if bytes_eq word (codes "tag") then tag_answer others
    else if bytes_eq word (codes "digest") then digest_answer others
    else if bytes_eq word (codes "ds-of") then ds_of_answer others
    else if bytes_eq word (codes "covers") then covers_answer others
    else message_calls word others
