-- What is true of the definitions. Each of these statements is proved by a function of the module `laws`.
use Rattle.std.specs.Prelude.{◌≡◌, ◌≢◌, ◌↔◌, ◌⊎◌, Bool, true, false, ℕ, ◌+◌, ◌≤◌, ◌<◌, ◌^◌, List, [], ◌∷◌, ◌++◌, map}
use Rattle.std.specs.Prelude.{◌&&◌, not, length, Option, None, Some, Result, Ok, IsTrue}
use Rattle.std.specs.List.{AllByRecursion}
use Rattle.dns_wire.specs.declared.encoder.NameEncoding.TheVariants.{Uncompressed}
use Rattle.dns_wire.specs.declared.error.DecodeError.{DecodeError}
use Rattle.dns_wire.specs.Octets.{AreOctets}
use Rattle.dns_wire.specs.Reading.{◌>>=◌}
use Rattle.dns_names.specs.Names.{IsName, low}
use Rattle.dns_grammar.specs.Fields.{limit, Kind, Number, Time, Fixed, Counted, Strings, Rest, LoweredName, KeptName}
use Rattle.dns_grammar.specs.Fields.{Value, Num, Str, Strs, Named, Field, Table, row_of, fields_octets}
use Rattle.dns_grammar.specs.RecordData.{tsig_type, RowAt, RDataAt, fields_filling, one_type_data_at, rdata_at}
use Rattle.dns_grammar.specs.RecordData.{plain, canon, Agree}
use Rattle.dns_grammar.specs.Messages.{Query, ResourceRecord, Message, records, last_additional, NotTsig, IsCounted}
use Rattle.dns_grammar.specs.Messages.{TsigIsLast, record_at, TsigData, MessageAt, message_at, tsig_values}
use Rattle.dns_grammar.specs.Messages.{signature_with, signature_of}
use Rattle.dns_grammar.specs.MessageWriting.{record_octets, message_octets}

-- ---- reading and standing

-- The data of one known type are read exactly where they stand.
abbrev pub RowIsReadWhereItStands : List Field → Type 0
RowIsReadWhereItStands fields = (m : List ℕ) (p len : ℕ) (values : List Value) (q : ℕ)
    → (one_type_data_at fields m p len ≡ Ok (values, q)) ↔ (RowAt fields m p len values × (q ≡ p + len))

-- Record data are read exactly where they stand.
abbrev pub DataIsReadWhereItStands : Table → Type 0
DataIsReadWhereItStands table = (m : List ℕ) (p len rtype : ℕ) (rdata : Option (List Value)) (q : ℕ)
    → (rdata_at table m p len rtype ≡ Ok (rdata, q)) ↔ (RDataAt table m p len rtype rdata × (q ≡ p + len))

-- At most one record data stand at a place.
abbrev pub OneData : Table → Type 0
OneData table = (m : List ℕ) (p len rtype : ℕ) (rdata other : Option (List Value))
    → RDataAt table m p len rtype rdata → RDataAt table m p len rtype other → rdata ≡ other

-- A message is read exactly where it stands.
abbrev pub MessageIsReadWhereItStands : Table → Type 0
MessageIsReadWhereItStands table = (m : List ℕ) (message : Message) (e : ℕ)
    → (message_at table m ≡ Ok (message, e)) ↔ MessageAt table m message e

-- A string of octets is at most one message, with one end.
abbrev pub OneMessage : Table → Type 0
OneMessage table = (m : List ℕ) (message other : Message) (e d : ℕ)
    → MessageAt table m message e → MessageAt table m other d → (message ≡ other) × (e ≡ d)

-- The last additional, where its type is TSIG, has the seven values of a transaction signature.
abbrev pub SignatureIsWhole : Table → Type 0
SignatureIsWhole table = (m : List ℕ) (message : Message) (e : ℕ) (rr : ResourceRecord)
    → MessageAt table m message e → last_additional message ≡ Some rr → rr.rtype ≡ tsig_type
    → (tsig : TsigData) × (rr.rdata ≡ Some (tsig_values tsig)) × (signature_of message ≡ Some (signature_with rr tsig))

-- ---- writing and reading

-- a value that a field of a kind may hold
abbrev pub Holds : Kind → Value → Type 0
Holds (Number size) (Num n) = n < limit size
Holds Time (Num n) = Unit {0}
Holds (Fixed n) (Str x) = length x ≡ n
Holds (Counted size too_long) (Str x) = Unit {0}
Holds Strings (Strs strings) = Unit {0}
Holds Rest (Str x) = Unit {0}
Holds LoweredName (Named n) = IsName n
Holds KeptName (Named n) = IsName n
Holds _ _ = ⊥

-- values that the fields may hold and allow
abbrev pub HoldsAll : List Field → List Value → Type 0
HoldsAll [] [] = Unit {0}
HoldsAll (field ∷ fields) (value ∷ values) =
    Holds field.kind value × (field.fault value ≡ None) × HoldsAll fields values
HoldsAll [] (_ ∷ _) = ⊥
HoldsAll (_ ∷ _) [] = ⊥

-- whether a field takes all that is left
abbrev pub takes_rest : Kind → Bool
takes_rest Rest = true
takes_rest Strings = true
takes_rest _ = false

-- whether no field but the last takes all that is left
abbrev pub rest_is_last : List Field → Bool
rest_is_last [] = true
rest_is_last (field ∷ []) = true
rest_is_last (field ∷ next ∷ fields) = not (takes_rest field.kind) && rest_is_last (next ∷ fields)

-- What is written of values is read as these values, wherever it stands.
abbrev pub WrittenIsRead : List Field → Type 0
WrittenIsRead fields = (values : List Value) (x front back : List ℕ)
    → HoldsAll fields values → fields_octets false fields values ≡ Ok x
    → fields_filling fields (front ++ (x ++ back)) (length front) (length front + length x) ≡ Ok values

-- Values that were read can be written, and what is written of them is read as the same values.
abbrev pub ReadIsReadAgain : List Field → Type 0
ReadIsReadAgain fields = (m : List ℕ) (p e : ℕ) (values : List Value)
    → AreOctets m → e ≤ length m → fields_filling fields m p e ≡ Ok values
    → (x : List ℕ) × (fields_octets false fields values ≡ Ok x)
    × ((front back : List ℕ)
    → fields_filling fields (front ++ (x ++ back)) (length front) (length front + length x) ≡ Ok values)

-- What is written of the values of one known type, which is not empty, is read as data of the type with these values,
-- wherever it stands.
abbrev pub WrittenRowIsRead : List Field → Type 0
WrittenRowIsRead fields = (values : List Value) (x front back : List ℕ)
    → HoldsAll fields values → 0 < length x → fields_octets false fields values ≡ Ok x
    → one_type_data_at fields (front ++ (x ++ back)) (length front) (length x) ≡ Ok (values, length front + length x)

-- These values of one known type can be written, and what is written of them is read as data of the type with these
-- values.
abbrev pub AreReadBack : List Field → List Value → Type 0
AreReadBack fields values = (x : List ℕ) × (fields_octets false fields values ≡ Ok x)
    × ((front back : List ℕ)
    → one_type_data_at fields (front ++ (x ++ back)) (length front) (length x) ≡ Ok (values, length front + length x))

-- Data of one known type that were read can be written, and what is written of them is read as the same data.
abbrev pub ReadRowIsReadAgain : List Field → Type 0
ReadRowIsReadAgain fields = (m : List ℕ) (p len : ℕ) (values : List Value) (q : ℕ)
    → AreOctets m → one_type_data_at fields m p len ≡ Ok (values, q) → AreReadBack fields values

-- record data that a record of this type may hold, and whose octets are not mistaken for empty data
abbrev pub HoldsData : Table → ℕ → Option (List Value) → List ℕ → Type 0
HoldsData table rtype None x = rtype ≢ tsig_type
HoldsData table rtype (Some values) x = HoldsAll (row_of table rtype) values × (0 < length x)

-- What is written of record data is read as these data, wherever it stands.
abbrev pub WrittenDataIsRead : Table → Type 0
WrittenDataIsRead table = (rtype : ℕ) (rdata : Option (List Value)) (x front back : List ℕ)
    → IsTrue (rest_is_last (row_of table rtype)) → HoldsData table rtype rdata x → plain table rtype rdata ≡ Ok x
    → rdata_at table (front ++ (x ++ back)) (length front) (length x) rtype ≡ Ok (rdata, length front + length x)

-- Record data that were read can be written, and what is written of them is read as the same data.
abbrev pub ReadDataIsReadAgain : Table → Type 0
ReadDataIsReadAgain table = (m : List ℕ) (p len rtype : ℕ) (rdata : Option (List Value)) (q : ℕ)
    → IsTrue (rest_is_last (row_of table rtype)) → AreOctets m → rdata_at table m p len rtype ≡ Ok (rdata, q)
    → (x : List ℕ) × (plain table rtype rdata ≡ Ok x)
    × ((front back : List ℕ)
    → rdata_at table (front ++ (x ++ back)) (length front) (length x) rtype ≡ Ok (rdata, length front + length x))

-- a question whose name and numbers can stand in a message
pub record IsQuery (query : Query) : Type 0 where
  pub name : IsName query.name
  pub query_type : query.query_type < 2 ^ 16
  pub query_class : query.query_class < 2 ^ 16

-- a record whose name, numbers and data can stand in a message
pub record IsRecord (table : Table) (rr : ResourceRecord) : Type 0 where
  pub name : IsName rr.name
  pub rtype : rr.rtype < 2 ^ 16
  pub dns_class : rr.dns_class < 2 ^ 16
  pub ttl : rr.ttl < 2 ^ 32
  pub rest_is_last : IsTrue (rest_is_last (row_of table rr.rtype))
  pub rdata : (x : List ℕ) → plain table rr.rtype rr.rdata ≡ Ok x → HoldsData table rr.rtype rr.rdata x

-- What is written of a record, its name as it is, is read as the same record, which starts where it was written. A
-- transaction signature is read so as the last additional.
abbrev pub WrittenRecordIsRead : Table → Type 0
WrittenRecordIsRead table = (is_last : Bool) (rr : ResourceRecord) (x front back : List ℕ)
    → IsRecord table rr → (is_last ≡ true) ⊎ NotTsig rr → record_octets false Uncompressed table rr ≡ Ok x
    → record_at table is_last (front ++ (x ++ back)) (length front)
    ≡ Ok (record rr { start = length front }, length front + length x)

-- a message whose numbers, names and data can stand in octets, whose header counts its lists, and whose last additional
-- alone may be a transaction signature
pub record IsMessage (table : Table) (message : Message) : Type 0 where
  pub id : message.header.id < 2 ^ 16
  pub flags : message.header.flags < 2 ^ 16
  pub counts : IsCounted message
  pub each_query : AllByRecursion IsQuery message.queries
  pub each_record : AllByRecursion (IsRecord table) (records message)
  pub tsig_is_last : TsigIsLast message

-- a record, and a message, without the places where records start
abbrev pub unplaced_record : ResourceRecord → ResourceRecord
unplaced_record rr = record rr { start = 0 }

abbrev pub unplaced : Message → Message
unplaced message = record message {
  answers = map unplaced_record message.answers;
  authorities = map unplaced_record message.authorities;
  additionals = map unplaced_record message.additionals;
}

-- the same of a message that is read
abbrev pub read_unplaced : Result (Message × ℕ) DecodeError → Result (Message × ℕ) DecodeError
read_unplaced read = read >>= λ x. Ok (unplaced x.0, x.1)

-- What is written of a message, its names as they are, and has at most 65,535 octets, is read as the same message, the
-- places where its records start aside.
abbrev pub WrittenMessageIsRead : Table → Type 0
WrittenMessageIsRead table = (message : Message) (x : List ℕ)
    → IsMessage table message → message_octets false Uncompressed table message ≡ Ok x → length x ≤ 65535
    → read_unplaced (message_at table x) ≡ Ok (unplaced message, length x)

-- ---- canonical form

-- a name that canonical form lowers, lowered
abbrev pub shown_value : Kind → Value → Value
shown_value LoweredName (Named n) = Named (low n)
shown_value _ v = v

abbrev pub shown_values : List Field → List Value → List Value
shown_values (field ∷ fields) (value ∷ values) = shown_value field.kind value ∷ shown_values fields values
shown_values _ values = values

-- Canonical form is what is written of the values with these names lowered.
abbrev pub CanonicalIsPlain : List Field → Type 0
CanonicalIsPlain fields = (values : List Value)
    → fields_octets true fields values ≡ fields_octets false fields (shown_values fields values)

-- Data that agree have one canonical form.
abbrev pub AgreeingHaveOneForm : Table → Type 0
AgreeingHaveOneForm table = (rtype : ℕ) (rdata other : Option (List Value))
    → Agree table rtype rdata other → canon table rtype rdata ≡ canon table rtype other
