-- The records of a message by the places where they stand (RFC 1035 4.1), and the canonical data of each (RFC 4034 6.2).
use Rattle.std.specs.Prelude.{true, ℕ, ◌-◌, List, ◌++◌, map, Result, Ok, Err}
use Rattle.std.specs.Result.{result_unwrap_or}
use Rattle.dns_wire.specs.declared.error.DecodeError.{DecodeError}
use Rattle.dns_wire.specs.declared.error.EmitError.{EmitError}
use Rattle.dns_wire.specs.Reading.{◌>>=◌}
use Rattle.dns_grammar.specs.Messages.{Message, ResourceRecord, message_at, record_at}
use Rattle.dns_grammar.specs.RecordData.{canon}
use Rattle.dns_rdata.specs.RDataTable.{rdata_table}
use Rattle.dns_message.specs.declared.section.Section.{Section}
use Rattle.dns_message.specs.declared.section.Section.TheVariants as sections
use Rattle.message_walk.specs.declared.data_error.DataError.{DataError}
use Rattle.message_walk.specs.declared.data_error.DataError.TheVariants.{NoRecord, DataTooLong}
use Rattle.message_walk.specs.declared.record_place.RecordPlace.{RecordPlace}

-- ---- one record

-- what reading a record at p gives, of whatever type, and the place behind it
abbrev pub record_from : List ℕ → ℕ → Result (ResourceRecord × ℕ) DecodeError
record_from m p = record_at rdata_table true m p

-- the place behind the record that starts at p; p where none does
abbrev pub record_end : List ℕ → ℕ → ℕ
record_end m p = result_unwrap_or (record_from m p >>= λ read. Ok read.1) p

-- the data that are written, or that they are too many for a record (RFC 1035 4.1.3)
abbrev pub if_short : Result (List ℕ) EmitError → Result (List ℕ) DataError
if_short (Ok octets) = Ok octets
if_short (Err _) = Err DataTooLong

-- the data of a record in canonical form (RFC 4034 6.2)
abbrev pub data_of : Result (ResourceRecord × ℕ) DecodeError → Result (List ℕ) DataError
data_of (Ok read) = if_short (canon rdata_table read.0.rtype read.0.rdata)
data_of (Err _) = Err NoRecord

-- The data of the record that starts at p in canonical form, or why there are none: no record stands there, or its data
-- have more than 65,535 octets in this form, their names no longer compressed.
abbrev pub data_at : List ℕ → ℕ → Result (List ℕ) DataError
data_at m p = data_of (record_from m p)

-- ---- the records of a message

-- the records of a section
abbrev pub section_records : Section → Message → List ResourceRecord
section_records sections.Answer message = message.answers
section_records sections.Authority message = message.authorities
section_records sections.Additional message = message.additionals

-- where a record of a section stands in m
abbrev pub place_of : List ℕ → Section → ResourceRecord → RecordPlace
place_of m section rr = record {
  start = rr.start;
  length = record_end m rr.start - rr.start;
  section = section;
  rtype = rr.rtype;
}

-- where the records of a section stand
abbrev pub section_places : List ℕ → Message → Section → List RecordPlace
section_places m message section = map (place_of m section) (section_records section message)

-- where all records of a message stand, in the order in which they stand
abbrev pub message_places : List ℕ → Message → List RecordPlace
message_places m message =
    section_places m message sections.Answer
    ++ (section_places m message sections.Authority ++ section_places m message sections.Additional)

-- the same of the message that stands in octets, or its first fault
abbrev pub places_at : List ℕ → Result (List RecordPlace) DecodeError
places_at m = message_at rdata_table m >>= λ read. Ok (message_places m read.0)
