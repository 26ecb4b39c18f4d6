-- What the call on messages is answered: a listing of the message by its sections.
use Rattle.std.specs.Prelude.{ℕ, ◌-◌, ◌%◌, List, [], ◌∷◌, ◌++◌, codes, map, length, nat_eq, if◌then◌else◌, Result, Ok}
use Rattle.std.specs.Prelude.{Err}
use Rattle.std.specs.Int.Bits.{bit_and}
use Rattle.std.specs.Fmt.{decimal}
use Rattle.std.specs.List.{flat_map}
use Rattle.std.specs.Option.{ok_or}
use Rattle.std.specs.Str.{bytes_eq}
use Rattle.dns_text.specs.Words.{one_word}
use Rattle.dns_wire.specs.Reading.{◌>>=◌}
use Rattle.dns_names.specs.NameText.{name_text}
use Rattle.dns_types.specs.Codes.{type_text, class_text}
use Rattle.dns_grammar.specs.Messages.{Query, ResourceRecord, Message, message_at}
use Rattle.dns_rdata.specs.RDataTable.{rdata_table}
use Rattle.dns_rdata.specs.DataText.{data_text}
use Rattle.dns_message.specs.Parts.{op_code_of}
use Rattle.dns_rows.specs.declared.refusal.Refusal.{Refusal}
use Rattle.dns_rows.specs.declared.refusal.Refusal.TheVariants.{NoCall}
use Rattle.dns_rows.specs.Refusals.{decode_refusal, with_refusal}
use Rattle.dns_rows.specs.CallWords.{octets_in}

-- ---- the header (RFC 1035 section 4.1.1)

-- a word, where its bit is set
abbrev pub flag_text : ℕ → ℕ → List ℕ → List ℕ
flag_text flags bit word = if nat_eq (bit_and flags bit) 0 then [] else word

-- the flags that are set, each after a space (RFC 1035 section 4.1.1, RFC 4035 sections 3.2.2 and 3.2.3)
unfoldable pub flags_text : ℕ → List ℕ
flags_text flags =
    flag_text flags 0x8000 (codes " qr") ++ flag_text flags 0x0400 (codes " aa") ++ flag_text flags 0x0200 (codes " tc")
    ++ flag_text flags 0x0100 (codes " rd") ++ flag_text flags 0x0080 (codes " ra")
    ++ flag_text flags 0x0020 (codes " ad") ++ flag_text flags 0x0010 (codes " cd")

-- the ID, the opcode, the response code and the flags
abbrev pub header_text : ℕ → ℕ → List ℕ
header_text id flags =
    codes ";; id " ++ decimal id ++ codes " opcode " ++ decimal (op_code_of flags) ++ codes " rcode "
    ++ decimal (flags % 16) ++ codes " flags" ++ flags_text flags

-- ---- questions and records

-- name, class and type of a question
abbrev pub query_text : Query → List ℕ
query_text query =
    name_text query.name ++ codes " " ++ class_text query.query_class ++ codes " " ++ type_text query.query_type

-- owner, TTL, class, type and data of a record
abbrev pub record_text : ResourceRecord → List ℕ
record_text rr =
    name_text rr.name ++ codes " " ++ decimal rr.ttl ++ codes " " ++ class_text rr.dns_class ++ codes " "
    ++ type_text rr.rtype ++ codes " " ++ data_text rr.rtype rr.rdata

-- ---- sections

-- lines, each after a line feed
abbrev pub lines_text : List (List ℕ) → List ℕ
lines_text lines = flat_map (λ line. codes "\n" ++ line) lines

-- a title and the lines of a section, and nothing where there are none
abbrev pub section_text : List ℕ → List (List ℕ) → List ℕ
section_text title [] = []
section_text title (line ∷ lines) = codes "\n;; " ++ title ++ lines_text (line ∷ lines)

abbrev pub message_text : Message → List ℕ
message_text message =
    header_text message.header.id message.header.flags
    ++ section_text (codes "QUESTION") (map query_text message.queries)
    ++ section_text (codes "ANSWER") (map record_text message.answers)
    ++ section_text (codes "AUTHORITY") (map record_text message.authorities)
    ++ section_text (codes "ADDITIONAL") (map record_text message.additionals)

-- how many octets stand after a message
abbrev pub after_text : ℕ → List ℕ
after_text count = if nat_eq count 0 then [] else codes "\n;; " ++ decimal count ++ codes " octets after the message"

-- the listing of the message that stands in octets (RFC 1035 section 4.1)
abbrev pub listing : List ℕ → Result (List ℕ) Refusal
listing octets = do
  found ← with_refusal decode_refusal (message_at rdata_table octets)
  Ok (message_text found.0 ++ after_text (length octets - found.1))

-- ---- calls

-- `message HEX`
abbrev pub message_answer : List (List ℕ) → Result (List ℕ) Refusal
message_answer others = do
  word ← ok_or (one_word others) NoCall
  octets ← octets_in word
  listing octets

-- the call on messages, and then the others
abbrev pub message_calls : List ℕ → List (List ℕ) → Result (List ℕ) Refusal
message_calls word others = if bytes_eq word (codes "message") then message_answer others else Err NoCall
