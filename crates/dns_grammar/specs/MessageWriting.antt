-- Messages as octets (RFC 1035 4.1). Owners and questions heed how names are written, and record data the canonical
-- form.
use Rattle.std.specs.Prelude.{Bool, ℕ, List, ◌++◌, length, Result, Ok, Err, nat_lt, if◌then◌else◌}
use Rattle.dns_wire.specs.declared.encoder.NameEncoding.{NameEncoding}
use Rattle.dns_wire.specs.declared.error.EmitError.{EmitError}
use Rattle.dns_wire.specs.declared.error.EmitError.TheVariants.{CountTooLarge}
use Rattle.dns_wire.specs.Octets.{two_octets, four_octets}
use Rattle.dns_wire.specs.Reading.{◌>>=◌}
use Rattle.dns_names.specs.NameWriting.{name_octets}
use Rattle.dns_wire.specs.Joining.{joined, each_octets}
use Rattle.dns_grammar.specs.Fields.{Table, row_of}
use Rattle.dns_grammar.specs.RecordData.{rdata_octets, fitting}
use Rattle.dns_grammar.specs.Messages.{Query, ResourceRecord, Message, records}

-- how many there are, in two octets
abbrev pub count_octets : {A : Type 0} → List A → Result (List ℕ) EmitError
count_octets xs = if nat_lt 65535 (length xs) then Err CountTooLarge else Ok (two_octets (length xs))

-- RFC 1035 4.1.1: the ID and the flags of a message, and the counts of its lists
abbrev pub header_octets : Message → Result (List ℕ) EmitError
header_octets message =
    joined (Ok (two_octets message.header.id ++ two_octets message.header.flags))
    (joined (count_octets message.queries)
    (joined (count_octets message.answers)
    (joined (count_octets message.authorities) (count_octets message.additionals))))

-- RFC 1035 4.1.2
abbrev pub query_octets : NameEncoding → Query → Result (List ℕ) EmitError
query_octets encoding query =
    Ok (name_octets encoding query.name ++ (two_octets query.query_type ++ two_octets query.query_class))

-- a record's octets before its data of this length
abbrev pub head_octets : NameEncoding → ResourceRecord → ℕ → List ℕ
head_octets encoding rr data_length =
    name_octets encoding rr.name
    ++ (two_octets rr.rtype ++ (two_octets rr.dns_class ++ (four_octets rr.ttl ++ two_octets data_length)))

-- RFC 1035 4.1.3: the octets of a record, or the first cause from the left why there are none, at last DataTooLong
abbrev pub record_octets : Bool → NameEncoding → Table → ResourceRecord → Result (List ℕ) EmitError
record_octets canonical encoding table rr = do
  rdata ← fitting (rdata_octets canonical (row_of table rr.rtype) rr.rdata)
  Ok (head_octets encoding rr (length rdata) ++ rdata)

-- The octets of a message, or the first cause why there are none: CountTooLarge for more than 65,535 questions or
-- records of one part, and then that of the first record.
abbrev pub message_octets : Bool → NameEncoding → Table → Message → Result (List ℕ) EmitError
message_octets canonical encoding table message =
    joined (header_octets message)
    (joined (each_octets (query_octets encoding) message.queries)
    (each_octets (record_octets canonical encoding table) (records message)))
