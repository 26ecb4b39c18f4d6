-- Records and messages that are held in memory as octets (RFC 1035 4.1).
use Rattle.std.specs.Prelude.{Bool, ℕ, List, ◌++◌, length, None, Result, Ok, Err}
use Rattle.dns_wire.specs.declared.encoder.NameEncoding.{NameEncoding}
use Rattle.dns_wire.specs.declared.error.EmitError.{EmitError}
use Rattle.dns_wire.specs.Reading.{◌>>=◌}
use Rattle.dns_wire.specs.Joining.{each_octets, joined, option_octets}
use Rattle.dns_grammar.specs.Fields.{fields_octets}
use Rattle.dns_grammar.specs.RecordData.{fitting, rdata_octets}
use Rattle.dns_grammar.specs.Messages.{ResourceRecord, tsig_values}
use Rattle.dns_grammar.specs.MessageWriting.{header_octets, query_octets, head_octets}
use Rattle.dns_grammar.specs.Tables.{tsig_row}
use Rattle.sec_sigdata.specs.declared.tsig.TSIG.{TSIG}
use Rattle.sec_sigdata.specs.TsigRecords.{tsig_data}
use Rattle.dns_rdata.specs.declared.rdata.RData.{RData}
use Rattle.dns_rdata.specs.RData.{rdata_row, rdata_values}
use Rattle.dns_message.specs.declared.message.Message.{Message}
use Rattle.dns_message.specs.declared.record.Record.{Record}
use Rattle.dns_message.specs.declared.record_writing.BorrowedRecord.{BorrowedRecord}
use Rattle.dns_message.specs.Parts.{record_view, tsig_record_view, message_parts, whole}
use Rattle.dns_message.specs.Views.{query_view}

-- a record's octets before its data, behind them their length, and the data; or the first cause, at last DataTooLong
abbrev pub with_rdata : NameEncoding → ResourceRecord → Result (List ℕ) EmitError → Result (List ℕ) EmitError
with_rdata encoding rr written = do
  rdata ← fitting written
  Ok (head_octets encoding rr (length rdata) ++ rdata)

-- a record that is borrowed, its data aside
abbrev pub borrowed_head : {R : Type 0} → BorrowedRecord R → ResourceRecord
borrowed_head rr = record {
  start = 0;
  name = rr.name.now;
  rtype = rr.rtype;
  dns_class = rr.dns_class;
  ttl = rr.ttl;
  rdata = None;
}

-- the octets of a record, its data by the fields that they have
abbrev pub written_record : Bool → NameEncoding → Record RData → Result (List ℕ) EmitError
written_record canonical encoding rr =
    with_rdata encoding (record_view rr) (rdata_octets canonical (rdata_row rr.rdata) (rdata_values rr.rdata))

-- the octets of a transaction signature
abbrev pub written_tsig_record : Bool → NameEncoding → Record TSIG → Result (List ℕ) EmitError
written_tsig_record canonical encoding rr =
    with_rdata encoding (tsig_record_view rr) (fields_octets canonical tsig_row (tsig_values (tsig_data rr.rdata)))

-- The octets of a message, or the first cause why there are none: CountTooLarge for more than 65,535 questions or
-- records of one part, the signature counted among the additionals; and then that of the first record. The signature
-- stands behind the additionals.
abbrev pub written_message : Bool → NameEncoding → Message → Result (List ℕ) EmitError
written_message canonical encoding message =
    joined (header_octets (whole (message_parts message)))
    (joined (each_octets (λ query. query_octets encoding (query_view query)) message.queries.items)
    (joined (each_octets (written_record canonical encoding) message.answers.items)
    (joined (each_octets (written_record canonical encoding) message.authorities.items)
    (joined (each_octets (written_record canonical encoding) message.additionals.items)
    (option_octets (written_tsig_record canonical encoding) message.signature)))))
