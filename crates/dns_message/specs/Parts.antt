-- What contracts see of records and messages that are held in memory (RFC 1035 4.1).
use Rattle.std.specs.Prelude.{◌≡◌, ℕ, List, [], ◌∷◌, ◌++◌, length, map, Bool, Option, Some, None, option_map}
use Rattle.std.specs.Prelude.{option_and_then}
use Rattle.std.specs.Prelude.{is_some, nat_eq, nat_le, ◌/◌, ◌%◌, if◌then◌else◌}
use Rattle.dns_grammar.specs.RecordData.{tsig_type}
use Rattle.dns_grammar.specs.Messages as grammar
use Rattle.dns_grammar.specs.Messages.{Query, ResourceRecord, tsig_values, before_last, last_of}
use Rattle.dns_grammar.specs.Laws.{unplaced_record}
use Rattle.sec_sigdata.specs.declared.tsig.TSIG.{TSIG}
use Rattle.sec_sigdata.specs.TsigRecords.{tsig_data}
use Rattle.dns_rdata.specs.declared.rdata.RData.{RData}
use Rattle.dns_rdata.specs.RData.{rdata_type, rdata_values, IsCopy}
use Rattle.dns_message.specs.declared.message.Message.{Message}
use Rattle.dns_message.specs.declared.record.Record.{Record}
use Rattle.dns_message.specs.Views.{query_view}

-- ---- records

-- a record, the place where it stands aside
abbrev pub record_view : Record RData → ResourceRecord
record_view rr = record {
  start = 0;
  name = rr.name;
  rtype = rdata_type rr.rdata;
  dns_class = rr.dns_class;
  ttl = rr.ttl;
  rdata = rdata_values rr.rdata;
}

-- the same of a transaction signature
abbrev pub tsig_record_view : Record TSIG → ResourceRecord
tsig_record_view rr = record {
  start = 0;
  name = rr.name;
  rtype = tsig_type;
  dns_class = rr.dns_class;
  ttl = rr.ttl;
  rdata = Some (tsig_values (tsig_data rr.rdata));
}

-- a record with the same parts and the same proof, the vectors of its data as the lists that they hold
pub record IsRecordCopy (rr copy : Record RData) : Type 0 where
  pub name : copy.name ≡ rr.name
  pub dns_class : copy.dns_class ≡ rr.dns_class
  pub ttl : copy.ttl ≡ rr.ttl
  pub rdata : IsCopy rr.rdata copy.rdata
  pub proof : copy.proof ≡ rr.proof

-- ---- messages

-- The parts of a message: the transaction signature that is its last additional record stands by itself (RFC 8945 5.1).
pub record Parts : Type 0 where
  pub id : ℕ
  pub flags : ℕ
  pub queries : List Query
  pub answers : List ResourceRecord
  pub authorities : List ResourceRecord
  pub additionals : List ResourceRecord
  pub signature : Option ResourceRecord

-- the parts of a message that is held in memory
abbrev pub message_parts : Message → Parts
message_parts message = record {
  id = message.id;
  flags = message.flags;
  queries = map query_view message.queries.items;
  answers = map record_view message.answers.items;
  authorities = map record_view message.authorities.items;
  additionals = map record_view message.additionals.items;
  signature = option_map tsig_record_view message.signature;
}

-- whether the bit QR, the highest of the flags, is set (RFC 1035 4.1.1)
abbrev pub has_qr : ℕ → Bool
has_qr flags = nat_le 32768 flags

-- the opcode, the four bits behind it
abbrev pub op_code_of : ℕ → ℕ
op_code_of flags = flags / 2048 % 16

-- a record of type TSIG
abbrev pub if_tsig : ResourceRecord → Option ResourceRecord
if_tsig rr = if nat_eq rr.rtype tsig_type then Some rr else None

-- the last of these records, where that is a transaction signature
abbrev pub last_tsig : List ResourceRecord → Option ResourceRecord
last_tsig rrs = option_and_then if_tsig (last_of rrs)

-- the records without it
abbrev pub before_tsig : List ResourceRecord → List ResourceRecord
before_tsig rrs = if is_some (last_tsig rrs) then before_last rrs else rrs

-- the parts of a message that stands in octets, the places where its records start aside
abbrev pub parts_of : grammar.Message → Parts
parts_of message = record {
  id = message.header.id;
  flags = message.header.flags;
  queries = message.queries;
  answers = map unplaced_record message.answers;
  authorities = map unplaced_record message.authorities;
  additionals = map unplaced_record (before_tsig message.additionals);
  signature = option_map unplaced_record (last_tsig message.additionals);
}

-- a list with one more at its end, where there is one
abbrev pub and_last : {A : Type 0} → List A → Option A → List A
and_last xs None = xs
and_last xs (Some x) = xs ++ x ∷ []

-- the message of these parts, whose header counts them
abbrev pub whole : Parts → grammar.Message
whole parts = record {
  header =
      record {
        id = parts.id;
        flags = parts.flags;
        questions = length parts.queries;
        answers = length parts.answers;
        authorities = length parts.authorities;
        additionals = length (and_last parts.additionals parts.signature);
      };
  queries = parts.queries;
  answers = parts.answers;
  authorities = parts.authorities;
  additionals = and_last parts.additionals parts.signature;
}
