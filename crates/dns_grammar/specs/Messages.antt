-- Messages (RFC 1035 4.1), their record data by a table. A transaction signature stands only as the last additional
-- record (RFC 8945 5.2).
use Rattle.std.specs.Prelude.{◌≡◌, ◌≢◌, Bool, false, ℕ, zero, suc, ◌+◌, ◌≤◌, List, [], ◌∷◌, ◌++◌, length}
use Rattle.std.specs.Prelude.{Option, Some, None, option_map, option_and_then, Result, Ok, Err}
use Rattle.std.specs.Prelude.{nat_lt, nat_eq, ◌&&◌, not, if◌then◌else◌}
use Rattle.std.specs.List.{AllByRecursion}
use Rattle.std.specs.Int.{w16, w32}
use Rattle.dns_wire.specs.declared.error.DecodeError.{DecodeError}
use Rattle.dns_wire.specs.declared.error.DecodeError.TheVariants.{MessageTooLong, TsigNotLast}
use Rattle.dns_wire.specs.Reading.{◌>>=◌, number_at, each_at, NumberAt}
use Rattle.dns_names.specs.Places.{NameAt, name_at}
use Rattle.dns_grammar.specs.Fields.{Value, Num, Str, Named, Table}
use Rattle.dns_grammar.specs.RecordData.{tsig_type, RDataAt, rdata_at}

-- ---- the parts of a message

-- RFC 1035 4.1.1: the ID, the flags, and how many questions and records there are
pub record Header : Type 0 where
  pub id : ℕ
  pub flags : ℕ
  pub questions : ℕ
  pub answers : ℕ
  pub authorities : ℕ
  pub additionals : ℕ

-- RFC 1035 4.1.2
pub record Query : Type 0 where
  pub name : List (List ℕ)
  pub query_type : ℕ
  pub query_class : ℕ

-- RFC 1035 4.1.3; with the place where the record starts, and without the length of its data
pub record ResourceRecord : Type 0 where
  pub start : ℕ
  pub name : List (List ℕ)
  pub rtype : ℕ
  pub dns_class : ℕ
  pub ttl : ℕ
  pub rdata : Option (List Value)

pub record Message : Type 0 where
  pub header : Header
  pub queries : List Query
  pub answers : List ResourceRecord
  pub authorities : List ResourceRecord
  pub additionals : List ResourceRecord

-- all records of a message, in the order in which they stand
abbrev pub records : Message → List ResourceRecord
records message = message.answers ++ (message.authorities ++ message.additionals)

-- the last of a list
abbrev pub last_of : {A : Type 0} → List A → Option A
last_of [] = None
last_of (x ∷ []) = Some x
last_of (x ∷ y ∷ xs) = last_of (y ∷ xs)

-- all of a list but the last
abbrev pub before_last : {A : Type 0} → List A → List A
before_last [] = []
before_last (x ∷ []) = []
before_last (x ∷ y ∷ xs) = x ∷ before_last (y ∷ xs)

abbrev pub last_additional : Message → Option ResourceRecord
last_additional message = last_of message.additionals

-- ---- where messages stand

-- these values stand one behind the other from p to q
abbrev pub EachAt : {A : Type 0} → (ℕ → A → ℕ → Type 0) → ℕ → List A → ℕ → Type 0
EachAt at p [] q = q ≡ p
EachAt at p (x ∷ xs) q = (r : ℕ) × at p x r × EachAt at r xs q

-- the six numbers at the start of m
pub record HeaderAt (m : List ℕ) (header : Header) : Type 0 where
  pub id : NumberAt w16 m 0 (length m) header.id 2
  pub flags : NumberAt w16 m 2 (length m) header.flags 4
  pub questions : NumberAt w16 m 4 (length m) header.questions 6
  pub answers : NumberAt w16 m 6 (length m) header.answers 8
  pub authorities : NumberAt w16 m 8 (length m) header.authorities 10
  pub additionals : NumberAt w16 m 10 (length m) header.additionals 12

-- a question stands at p of m, and q is the place behind it
pub record QueryAt (m : List ℕ) (p : ℕ) (query : Query) (q : ℕ) : Type 0 where
  pub fixed : ℕ
  pub name : NameAt m p (length m) query.name fixed
  pub query_type : NumberAt w16 m fixed (length m) query.query_type (fixed + 2)
  pub query_class : NumberAt w16 m (fixed + 2) (length m) query.query_class (fixed + 4)
  pub end : q ≡ fixed + 4

-- A record stands at p of m, and q is the place behind it: its name, ten octets with the length of its data, the data.
pub record RecordAt (table : Table) (m : List ℕ) (p : ℕ) (rr : ResourceRecord) (q : ℕ) : Type 0 where
  pub fixed : ℕ
  pub data_length : ℕ
  pub start : rr.start ≡ p
  pub name : NameAt m p (length m) rr.name fixed
  pub rtype : NumberAt w16 m fixed (length m) rr.rtype (fixed + 2)
  pub dns_class : NumberAt w16 m (fixed + 2) (length m) rr.dns_class (fixed + 4)
  pub ttl : NumberAt w32 m (fixed + 4) (length m) rr.ttl (fixed + 8)
  pub rdlength : NumberAt w16 m (fixed + 8) (length m) data_length (fixed + 10)
  pub rdata : RDataAt table m (fixed + 10) data_length rr.rtype rr.rdata
  pub end : q ≡ fixed + 10 + data_length

-- as many questions and records as the header says
pub record IsCounted (message : Message) : Type 0 where
  pub questions : length message.queries ≡ message.header.questions
  pub answers : length message.answers ≡ message.header.answers
  pub authorities : length message.authorities ≡ message.header.authorities
  pub additionals : length message.additionals ≡ message.header.additionals

-- a record of another type than TSIG
abbrev pub NotTsig : ResourceRecord → Type 0
NotTsig rr = rr.rtype ≢ tsig_type

-- no answer, no authority and no additional but the last is a transaction signature (RFC 8945 5.1, 5.2)
pub record TsigIsLast (message : Message) : Type 0 where
  pub answers : AllByRecursion NotTsig message.answers
  pub authorities : AllByRecursion NotTsig message.authorities
  pub additionals : AllByRecursion NotTsig (before_last message.additionals)

-- m is a message with these parts, and e is the place behind the last of them. Octets from e on are no part of it.
pub record MessageAt (table : Table) (m : List ℕ) (message : Message) (e : ℕ) : Type 0 where
  pub at_most_65535 : length m ≤ 65535
  pub header : HeaderAt m message.header
  pub answers_start : ℕ
  pub authorities_start : ℕ
  pub additionals_start : ℕ
  pub queries : EachAt (QueryAt m) 12 message.queries answers_start
  pub answers : EachAt (RecordAt table m) answers_start message.answers authorities_start
  pub authorities : EachAt (RecordAt table m) authorities_start message.authorities additionals_start
  pub additionals : EachAt (RecordAt table m) additionals_start message.additionals e
  pub counts : IsCounted message
  pub tsig_is_last : TsigIsLast message

-- ---- how messages are read, from left to right up to the first fault

unfoldable pub header_at : List ℕ → Result (Header × ℕ) DecodeError
header_at m = do
  id ← number_at w16 m 0 (length m)
  flags ← number_at w16 m id.1 (length m)
  questions ← number_at w16 m flags.1 (length m)
  answers ← number_at w16 m questions.1 (length m)
  authorities ← number_at w16 m answers.1 (length m)
  additionals ← number_at w16 m authorities.1 (length m)
  Ok (
    record {
      id = id.0;
      flags = flags.0;
      questions = questions.0;
      answers = answers.0;
      authorities = authorities.0;
      additionals = additionals.0;
    },
    additionals.1,
  )

unfoldable pub query_at : List ℕ → ℕ → Result (Query × ℕ) DecodeError
query_at m p = do
  name ← name_at m p (length m)
  query_type ← number_at w16 m name.1 (length m)
  query_class ← number_at w16 m query_type.1 (length m)
  Ok (record { name = name.0; query_type = query_type.0; query_class = query_class.0 }, query_class.1)

-- what stands before a record's data
pub record RecordHead : Type 0 where
  pub start : ℕ
  pub name : List (List ℕ)
  pub rtype : ℕ
  pub dns_class : ℕ
  pub ttl : ℕ
  pub data_length : ℕ

unfoldable pub head_at : List ℕ → ℕ → Result (RecordHead × ℕ) DecodeError
head_at m p = do
  name ← name_at m p (length m)
  rtype ← number_at w16 m name.1 (length m)
  dns_class ← number_at w16 m rtype.1 (length m)
  ttl ← number_at w32 m dns_class.1 (length m)
  data_length ← number_at w16 m ttl.1 (length m)
  Ok (
    record {
      start = p;
      name = name.0;
      rtype = rtype.0;
      dns_class = dns_class.0;
      ttl = ttl.0;
      data_length = data_length.0;
    },
    data_length.1,
  )

-- TsigNotLast where a transaction signature isn't the last additional
abbrev pub placed : Bool → ℕ → Result (Unit {0}) DecodeError
placed is_last rtype = if nat_eq rtype tsig_type && not is_last then Err TsigNotLast else Ok tt

-- a record with these data
abbrev pub with_data : RecordHead → Option (List Value) → ResourceRecord
with_data head rdata = record {
  start = head.start;
  name = head.name;
  rtype = head.rtype;
  dns_class = head.dns_class;
  ttl = head.ttl;
  rdata = rdata;
}

-- What reading a record at p gives, which is the last additional or not. TsigNotLast comes behind the length of the
-- data, and before InsufficientBytes for data that pass the end of m.
unfoldable pub record_at : Table → Bool → List ℕ → ℕ → Result (ResourceRecord × ℕ) DecodeError
record_at table is_last m p = do
  head ← head_at m p
  _ ← placed is_last head.0.rtype
  rdata ← rdata_at table m head.1 head.0.data_length head.0.rtype
  Ok (with_data head.0 rdata.0, rdata.1)

-- so many questions from p
abbrev pub queries_at : ℕ → List ℕ → ℕ → Result (List Query × ℕ) DecodeError
queries_at n m p = each_at (query_at m) n p

-- so many records from p, none of them the last additional
abbrev pub records_at : Table → ℕ → List ℕ → ℕ → Result (List ResourceRecord × ℕ) DecodeError
records_at table n m p = each_at (record_at table false m) n p

-- so many records from p, of which the last is the last additional
unfoldable pub additionals_at : Table → ℕ → List ℕ → ℕ → Result (List ResourceRecord × ℕ) DecodeError
additionals_at table zero m p = Ok ([], p)
additionals_at table (suc n) m p = do
  rr ← record_at table (nat_eq n 0) m p
  rest ← additionals_at table n m rr.1
  Ok (rr.0 ∷ rest.0, rest.1)

-- what stands behind a header, from p
unfoldable pub body_at : Table → List ℕ → Header → ℕ → Result (Message × ℕ) DecodeError
body_at table m header p = do
  queries ← queries_at header.questions m p
  answers ← records_at table header.answers m queries.1
  authorities ← records_at table header.authorities m answers.1
  additionals ← additionals_at table header.additionals m authorities.1
  Ok (
    record {
      header = header;
      queries = queries.0;
      answers = answers.0;
      authorities = authorities.0;
      additionals = additionals.0;
    },
    additionals.1,
  )

-- goes on with the header of m, unless m has more than 65535 octets
abbrev pub sized_header_at : List ℕ → Result (Header × ℕ) DecodeError
sized_header_at m = if nat_lt 65535 (length m) then Err MessageTooLong else header_at m

-- What reading the message m gives: its parts and the place behind them, or the first fault. That is MessageTooLong for
-- more than 65535 octets, and then the fault of the first field from the left.
unfoldable pub message_at : Table → List ℕ → Result (Message × ℕ) DecodeError
message_at table m = sized_header_at m >>= λ header. body_at table m header.0 header.1

-- ---- the transaction signature of a message

-- the data of a transaction signature (RFC 8945 4.2)
pub record TsigData : Type 0 where
  pub algorithm : List (List ℕ)
  pub time : ℕ
  pub fudge : ℕ
  pub mac : List ℕ
  pub oid : ℕ
  pub error : ℕ
  pub other : List ℕ

-- the values of its fields
abbrev pub tsig_values : TsigData → List Value
tsig_values tsig =
    Named tsig.algorithm
    ∷ Num tsig.time
    ∷ Num tsig.fudge
    ∷ Str tsig.mac
    ∷ Num tsig.oid
    ∷ Num tsig.error
    ∷ Str tsig.other
    ∷ []

-- and back
abbrev pub tsig_from_values : Option (List Value) → Option TsigData
tsig_from_values (Some (Named algorithm ∷ Num time ∷ Num fudge ∷ Str mac ∷ Num oid ∷ Num error ∷ Str other ∷ [])) =
    Some (
    record {
      algorithm = algorithm;
      time = time;
      fudge = fudge;
      mac = mac;
      oid = oid;
      error = error;
      other = other;
    }
    )
tsig_from_values _ = None

-- a transaction signature as a record of a message, and where the record starts
pub record Signature : Type 0 where
  pub start : ℕ
  pub name : List (List ℕ)
  pub tsig : TsigData

abbrev pub signature_with : ResourceRecord → TsigData → Signature
signature_with rr tsig = record { start = rr.start; name = rr.name; tsig = tsig }

-- a record of type TSIG as a transaction signature
abbrev pub signature_from : ResourceRecord → Option Signature
signature_from rr =
    if nat_eq rr.rtype tsig_type then option_map (signature_with rr) (tsig_from_values rr.rdata) else None

-- the last additional, where that is a transaction signature
abbrev pub signature_of : Message → Option Signature
signature_of message = option_and_then signature_from (last_additional message)

-- what a message says of itself, its lists left out
pub record Outline : Type 0 where
  pub header : Header
  pub signature : Option Signature

abbrev pub outline_of : Message → Outline
outline_of message = record { header = message.header; signature = signature_of message }

-- m is a message whose last additional is this transaction signature, and e is the place behind its parts
pub record HasTsig (table : Table) (m : List ℕ) (message : Message) (signature : Signature) (e : ℕ) : Type 0 where
  pub stands : MessageAt table m message e
  pub is_last : signature_of message ≡ Some signature
