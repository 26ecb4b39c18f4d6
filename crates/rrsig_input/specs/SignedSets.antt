-- The octets that an RRSIG of a message covers (RFC 4034 3.1.8.1), by the octets of the message.
use Rattle.std.specs.Prelude.{Bool, false, true, ℕ, ◌&&◌, nat_eq, if◌then◌else◌, List, [], ◌∷◌, Option, None}
use Rattle.std.specs.Prelude.{option_map, Result, Ok, Err}
use Rattle.std.specs.Option.{ok_or}
use Rattle.std.specs.Result.{result_unwrap_or}
use Rattle.dns_wire.specs.declared.error.DecodeError.{DecodeError}
use Rattle.dns_wire.specs.Reading.{◌>>=◌}
use Rattle.dns_grammar.specs.Messages.{Message, RecordHead, ResourceRecord, head_at, message_at, records}
use Rattle.dns_rdata.specs.RDataTable.{rdata_table}
use Rattle.dns_message.specs.declared.section.Section.{Section}
use Rattle.dns_message.specs.declared.section.Section.TheVariants as sections
use Rattle.message_walk.specs.declared.record_place.RecordPlace.{RecordPlace}
use Rattle.message_walk.specs.Places.{data_at, section_records}
use Rattle.sec_sigdata.specs.declared.sig_input.SigInput.{SigInput}
use Rattle.sec_sign.specs.MessageSignatures.{rrsig_in}
use Rattle.sec_sign.specs.Sets.{SetName, same_set, set_octets}
use Rattle.sec_sign.specs.Signed.{set_covered, shown_owner, signed_octets}
use Rattle.rrsig_input.specs.declared.input_error.InputError.{InputError}
use Rattle.rrsig_input.specs.declared.input_error.InputError.TheVariants as causes

-- ---- the RRSIG

-- the fields before the signature of a record of type RRSIG whose data aren't empty
abbrev pub input_of : ResourceRecord → Option SigInput
input_of rr = option_map (λ rrsig. rrsig.input) (rrsig_in rr)

-- the same of the one of these records that starts at a place
abbrev pub input_at : List ResourceRecord → ℕ → Option SigInput
input_at [] start = None
input_at (rr ∷ rrs) start = if nat_eq rr.start start then input_of rr else input_at rrs start

-- the same of a message that is read
abbrev pub input_in : Result (Message × ℕ) DecodeError → ℕ → Result SigInput InputError
input_in (Err _) start = Err causes.NoMessage
input_in (Ok read) start = ok_or (input_at (records read.0) start) causes.NoRrsig

-- ---- the set

-- values, or DataTooLong where there are none: a record that was read can't be written only where its data have more
-- than 65,535 octets, their names no longer compressed
abbrev pub or_too_long : {A E : Type 0} → Result A E → Result A InputError
or_too_long (Ok x) = Ok x
or_too_long (Err _) = Err causes.DataTooLong

-- the data of a set of a section of a message that is read, in canonical form and order
abbrev pub set_in : Result (Message × ℕ) DecodeError → Section → SetName → Result (List (List ℕ)) InputError
set_in (Err _) section set = Err causes.NoMessage
set_in (Ok read) section set = or_too_long (set_octets set (section_records section read.0))

-- ---- what is signed

-- The octets that the RRSIG that starts at a place of a message covers of the set of an owner and a class in a section;
-- or the first cause why there are none: the octets are no message, no RRSIG starts there, it has more labels than
-- the owner, a record of the set has more than 65,535 octets of data in canonical form.
abbrev pub signed_input : List ℕ → Section → List (List ℕ) → ℕ → ℕ → Result (List ℕ) InputError
signed_input message section owner dns_class start = do
  input ← input_in (message_at rdata_table message) start
  shown ← ok_or (shown_owner owner input.num_labels) causes.LabelsExceedOwner
  strings ← set_in (message_at rdata_table message) section (set_covered owner dns_class input)
  Ok (signed_octets shown input dns_class strings)

-- ---- records by the places where they start

-- the fields before the signature of a record that is read, where it is an RRSIG whose data aren't empty
abbrev pub input_read : Result (ResourceRecord × ℕ) DecodeError → Option SigInput
input_read (Ok read) = input_of read.0
input_read (Err _) = None

-- the set that a record with this head is of
abbrev pub set_of_head : RecordHead → SetName
set_of_head head = record { name = head.name; dns_class = head.dns_class; rtype = head.rtype }

-- whether what is read before the data of a record is that of a record of a set
abbrev pub is_head_of : SetName → Result (RecordHead × ℕ) DecodeError → Bool
is_head_of set (Ok read) = same_set (set_of_head read.0) set
is_head_of set (Err _) = false

abbrev pub same_section : Section → Section → Bool
same_section sections.Answer sections.Answer = true
same_section sections.Authority sections.Authority = true
same_section sections.Additional sections.Additional = true
same_section _ _ = false

-- whether a record of a section is of a set there
abbrev pub is_place_of : List ℕ → Section → SetName → RecordPlace → Bool
is_place_of message section set place =
    same_section place.section section && is_head_of set (head_at message place.start)

-- the data in canonical form of the record that starts at a place; none where there are none
abbrev pub data_from : List ℕ → ℕ → List ℕ
data_from message start = result_unwrap_or (data_at message start) []
