-- What a transaction signature covers, and the record that carries it (RFC 8945 4.2, 4.3).
use Rattle.std.specs.Prelude.{◌≡◌, ℕ, ◌+◌, ◌-◌, ◌^◌, ◌<◌, List, [], ◌++◌, length, slice_range, Bool, false}
use Rattle.std.specs.Prelude.{Option, Some, None, Result, Ok, Err, nat_lt, ◌==◌, if◌then◌else◌}
use Rattle.std.specs.Int.{w16, from_be_bytes}
use Rattle.dns_wire.specs.declared.encoder.NameEncoding.TheVariants.{Uncompressed}
use Rattle.dns_wire.specs.declared.error.EmitError.{EmitError}
use Rattle.dns_wire.specs.declared.error.EmitError.TheVariants.{CountTooLarge, MacTooLong, MessageTooLong}
use Rattle.dns_wire.specs.Joining.{joined}
use Rattle.dns_wire.specs.Octets.{two_octets}
use Rattle.dns_wire.specs.Reading.{◌>>=◌}
use Rattle.dns_grammar.specs.Fields.{Num, Time, Two, counted_octets, value_octets}
use Rattle.dns_grammar.specs.RecordData.{tsig_type}
use Rattle.dns_grammar.specs.Messages.{Header, ResourceRecord, Signature, TsigData, tsig_values}
use Rattle.dns_grammar.specs.MessageWriting.{record_octets}
use Rattle.sec_codes.specs.declared.proof.Proof.{Proof}
use Rattle.sec_codes.specs.declared.proof.Proof.TheVariants.{Indeterminate}
use Rattle.sec_sigdata.specs.declared.tsig.TSIG.{TSIG}
use Rattle.sec_sigdata.specs.TsigRecords.{TsigFields, any_class, fields_data, tsig_fields, tsig_timers, tsig_variables}
use Rattle.sec_sigdata.specs.TsigRecords.{written_variables}
use Rattle.dns_rdata.specs.RDataTable.{rdata_table}
use Rattle.dns_message.specs.declared.record.Record.{Record}

-- ---- the octets under a MAC

-- the MAC of the message before, after its length; nothing where there is none (RFC 8945 4.3.1)
unfoldable pub prior_mac : Option (List ℕ) → List ℕ
prior_mac None = []
prior_mac (Some mac) = two_octets (length mac) ++ mac

-- The message as it was before a TSIG record, which starts at `start`, was put after it: under its original ID, and
-- with an additional count of one less (RFC 8945 4.3.2).
unfoldable pub message_without_tsig : ℕ → ℕ → List ℕ → ℕ → List ℕ
message_without_tsig oid additionals m start =
    two_octets oid ++ slice_range m 2 10 ++ two_octets (additionals - 1) ++ slice_range m 12 start

-- What a MAC covers of its own TSIG record: the variables in a request and in the first answer to it, the timers in
-- every later answer (RFC 8945 5.3.1).
abbrev pub covered_fields : Bool → List (List ℕ) → TsigData → List ℕ
covered_fields first owner tsig = if first then tsig_variables owner tsig else tsig_timers tsig

-- The octets under a MAC: the MAC of the message before, the message without its TSIG record, and what is covered of
-- that record (RFC 8945 4.3).
unfoldable pub mac_input : Option (List ℕ) → Bool → List ℕ → List (List ℕ) → TsigData → List ℕ
mac_input previous first message owner tsig = prior_mac previous ++ message ++ covered_fields first owner tsig

-- the same of a message that was received with this header and this TSIG record
abbrev pub received_input : Option (List ℕ) → Bool → List ℕ → Header → Signature → List ℕ
received_input previous first m header s =
    mac_input previous first (message_without_tsig s.tsig.oid header.additionals m s.start) s.name s.tsig

-- a MAC that its length of two octets can count
abbrev pub IsCounted : List ℕ → Type 0
IsCounted mac = length mac < 2 ^ 16

-- the timers, or TimeTooLarge for a time of 2^48 or more
abbrev pub written_timers : TsigData → Result (List ℕ) EmitError
written_timers tsig = joined (value_octets false Time (Num tsig.time)) (Ok (two_octets tsig.fudge))

-- what a MAC covers of its own TSIG record, or the first field that can't be written
abbrev pub written_covered : Bool → List (List ℕ) → TsigData → Result (List ℕ) EmitError
written_covered first owner tsig = if first then written_variables owner tsig else written_timers tsig

-- The octets under a MAC, or the first cause why there are none: MacTooLong for a MAC before the message that its length
-- of two octets can't count, the cause why the message has no octets, the first field of the record that can't be
-- written.
abbrev pub written_input : Option (List ℕ) → Result (List ℕ) EmitError → Bool → List (List ℕ) → TsigData
    → Result (List ℕ) EmitError
written_input None message first owner tsig = joined message (written_covered first owner tsig)
written_input (Some mac) message first owner tsig =
    joined (counted_octets Two MacTooLong mac) (joined message (written_covered first owner tsig))

-- ---- the record

-- what contracts see of a TSIG record that is held in memory
pub record TsigRecord : Type 0 where
  pub name : List (List ℕ)
  pub dns_class : ℕ
  pub ttl : ℕ
  pub tsig : TsigFields
  pub proof : Proof

abbrev pub tsig_record : Record TSIG → TsigRecord
tsig_record rr = record {
  name = rr.name;
  dns_class = rr.dns_class;
  ttl = rr.ttl;
  tsig = tsig_fields rr.rdata;
  proof = rr.proof;
}

-- the TSIG record of this owner with these data: class ANY and TTL 0 (RFC 8945 4.2)
abbrev pub made_record : List (List ℕ) → TsigFields → TsigRecord
made_record owner tsig = record { name = owner; dns_class = any_class; ttl = 0; tsig = tsig; proof = Indeterminate }

-- a TSIG record as a record of a message, the place where it stands aside
abbrev pub resource_record : TsigRecord → ResourceRecord
resource_record rr = record {
  start = 0;
  name = rr.name;
  rtype = tsig_type;
  dns_class = rr.dns_class;
  ttl = rr.ttl;
  rdata = Some (tsig_values (fields_data rr.tsig));
}

-- the octets of a TSIG record, or the first cause why there are none
abbrev pub written_record : TsigRecord → Result (List ℕ) EmitError
written_record rr = record_octets false Uncompressed rdata_table (resource_record rr)

-- how many additional records the header of a message counts (RFC 1035 4.1.1)
abbrev pub additional_count : List ℕ → ℕ
additional_count octets = from_be_bytes w16 (slice_range octets 10 12)

-- the octets of a message with a record put after them and counted among its additionals
abbrev pub join : List ℕ → List ℕ → List ℕ
join octets behind =
    slice_range octets 0 10 ++ two_octets (additional_count octets + 1) ++ slice_range octets 12 (length octets) ++ behind

-- octets that are not too many for a message
abbrev pub sized : List ℕ → Result (List ℕ) EmitError
sized octets = if nat_lt 65535 (length octets) then Err MessageTooLong else Ok octets

-- A message with a TSIG record put after it, or the first cause why there is none: CountTooLarge for 65,535
-- additionals, since there is no number above that for them (RFC 8945 5.1), the cause of the record, and MessageTooLong
-- for more than 65,535 octets.
abbrev pub with_record : List ℕ → TsigRecord → Result (List ℕ) EmitError
with_record octets rr =
    if additional_count octets == 65535 then Err CountTooLarge
    else (written_record rr >>= λ behind. sized (join octets behind))

-- Ok: how many octets the message has with the record after it. An error is the cause why there is none.
abbrev pub JoinsTo : Result ℕ EmitError → List ℕ → TsigRecord → Type 0
JoinsTo (Ok n) octets rr =
    (behind : List ℕ) × (written_record rr ≡ Ok behind) × (with_record octets rr ≡ Ok (join octets behind))
    × (n ≡ length octets + length behind)
JoinsTo (Err cause) octets rr = with_record octets rr ≡ Err cause
