-- What the calls on the records of messages answer.
use Rattle.std.specs.Prelude.{ℕ, nat_eq, if◌then◌else◌, List, map, Result, Ok, Err}
use Rattle.std.specs.Result.{result_map_both}
use Rattle.dns_wire.specs.declared.error.DecodeError.{DecodeError}
use Rattle.dns_wire.specs.Reading.{◌>>=◌}
use Rattle.dns_message.specs.declared.section.Section.{Section}
use Rattle.dns_message.specs.declared.section.Section.TheVariants as sections
use Rattle.message_walk.specs.declared.data_error.DataError.{DataError}
use Rattle.message_walk.specs.declared.data_error.DataError.TheVariants as faults
use Rattle.message_walk.specs.declared.record_place.RecordPlace.{RecordPlace}
use Rattle.message_walk.specs.Places.{data_at, places_at}
use Rattle.rrsig_input.specs.declared.input_error.InputError.{InputError}
use Rattle.rrsig_input.specs.declared.input_error.InputError.TheVariants as inputs
use Rattle.rrsig_input.specs.SignedSets.{signed_input}
use Rattle.dns_c.specs.declared.records.PspRecord.{PspRecord}
use Rattle.dns_c.specs.declared.status.Status.{Status}
use Rattle.dns_c.specs.declared.status.Status.TheVariants as status
use Rattle.dns_c.specs.Arguments.{wire_name}

-- the number of a section, as it stands in the header for C
abbrev pub section_number : Section → ℕ
section_number sections.Answer = 1
section_number sections.Authority = 2
section_number sections.Additional = 3

-- and back
abbrev pub section_of_number : ℕ → Result Section Status
section_of_number number =
    if nat_eq number 1 then Ok sections.Answer
    else if nat_eq number 2 then Ok sections.Authority
    else if nat_eq number 3 then Ok sections.Additional
    else Err status.BadSection

-- where a record stands, as it is told
abbrev pub record_for : RecordPlace → PspRecord
record_for place = record {
  start = place.start;
  length = place.length;
  section = section_number place.section;
  rtype = place.rtype;
}

abbrev pub no_message : DecodeError → Status
no_message _ = status.NotAMessage

-- where the records of the message stand that stands in octets
abbrev pub records_of : List ℕ → Result (List PspRecord) Status
records_of octets = result_map_both (map record_for) no_message (places_at octets)

-- the status of a record without canonical data
abbrev pub data_status : DataError → Status
data_status faults.NoRecord = status.NoRecord
data_status faults.DataTooLong = status.DataTooLong

-- the data in canonical form of the record that starts at a place (RFC 4034 6.2)
abbrev pub data_of_record : List ℕ → ℕ → Result (List ℕ) Status
data_of_record octets start = result_map_both (λ x. x) data_status (data_at octets start)

-- the status of an RRSIG that covers nothing
abbrev pub input_status : InputError → Status
input_status inputs.NoMessage = status.NotAMessage
input_status inputs.NoRrsig = status.NoRrsig
input_status inputs.LabelsExceedOwner = status.LabelsExceedOwner
input_status inputs.DataTooLong = status.DataTooLong

-- the octets that an RRSIG of a message covers of the set of an owner and a class in a section (RFC 4034 3.1.8.1)
abbrev pub input_of_rrsig : List ℕ → ℕ → List ℕ → ℕ → ℕ → Result (List ℕ) Status
input_of_rrsig octets number owner dns_class start = do
  section ← section_of_number number
  name ← wire_name owner
  result_map_both (λ x. x) input_status (signed_input octets section name dns_class start)
