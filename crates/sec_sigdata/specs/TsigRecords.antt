-- The data of TSIG records (RFC 8945 4.2), and what a MAC covers of them (RFC 8945 4.3).
use Rattle.std.specs.Prelude.{◌≡◌, ℕ, ◌^◌, ◌<◌, List, [], ◌∷◌, ◌++◌, length, codes, Option, Result, Ok, Err}
use Rattle.std.specs.Prelude.{nat_lt, if◌then◌else◌}
use Rattle.std.specs.Fmt.{decimal}
use Rattle.dns_text.specs.HexText.{lower_hex}
use Rattle.dns_wire.specs.declared.error.EmitError.{EmitError}
use Rattle.dns_wire.specs.declared.error.EmitError.TheVariants.{TimeTooLarge, OtherTooLong}
use Rattle.dns_wire.specs.Octets.{two_octets, four_octets, six_octets}
use Rattle.dns_names.specs.Names.{wire, low}
use Rattle.dns_names.specs.NameText.{name_text_without_dot}
use Rattle.dns_types.specs.ClassNumbers as classes
use Rattle.dns_grammar.specs.Fields.{Two, Four, Number, Time, Counted, KeptName, Value, Num, Str, Named, Field, any}
use Rattle.dns_grammar.specs.Messages.{TsigData, tsig_values}
use Rattle.sec_sigdata.specs.declared.tsig.TSIG.{TSIG}
use Rattle.sec_sigdata.specs.declared.tsig_algorithm.TsigAlgorithm.{TsigAlgorithm}
use Rattle.sec_sigdata.specs.declared.tsig_error.TsigError.{TsigError}
use Rattle.sec_sigdata.specs.declared.borrowed_tsig.BorrowedTsig.{BorrowedTsig}
use Rattle.sec_sigdata.specs.TsigAlgorithms.{algorithm_name, tsig_algorithm_named}
use Rattle.sec_sigdata.specs.TsigErrors.{optional_error_number, optional_error}

-- ---- data

-- what a TSIG record says
pub record TsigFields : Type 0 where
  pub algorithm : TsigAlgorithm
  pub time : ℕ
  pub fudge : ℕ
  pub mac : List ℕ
  pub oid : ℕ
  pub error : Option TsigError
  pub other : List ℕ

abbrev pub tsig_fields : TSIG → TsigFields
tsig_fields tsig = record {
  algorithm = tsig.algorithm;
  time = tsig.time;
  fudge = tsig.fudge;
  mac = tsig.mac.items;
  oid = tsig.oid;
  error = tsig.error;
  other = tsig.other.items;
}

abbrev pub borrowed_fields : BorrowedTsig → TsigFields
borrowed_fields tsig = record {
  algorithm = tsig.algorithm;
  time = tsig.time;
  fudge = tsig.fudge;
  mac = tsig.mac.now;
  oid = tsig.oid;
  error = tsig.error;
  other = tsig.other.now;
}

-- the same with the algorithm's name and the error's number, as the record carries them
abbrev pub fields_data : TsigFields → TsigData
fields_data tsig = record {
  algorithm = algorithm_name tsig.algorithm;
  time = tsig.time;
  fudge = tsig.fudge;
  mac = tsig.mac;
  oid = tsig.oid;
  error = optional_error_number tsig.error;
  other = tsig.other;
}

-- the data of a TSIG, and of one that is borrowed
abbrev pub tsig_data : TSIG → TsigData
tsig_data tsig = fields_data (tsig_fields tsig)

abbrev pub borrowed_data : BorrowedTsig → TsigData
borrowed_data tsig = fields_data (borrowed_fields tsig)

-- the values of the fields
abbrev pub borrowed_values : BorrowedTsig → List Value
borrowed_values tsig = tsig_values (borrowed_data tsig)

-- The algorithm and the error are those of their name and number: none with a name of its own is called unknown, and 0
-- is no error.
pub record TsigIsByNumber (tsig : TsigFields) : Type 0 where
  pub algorithm : tsig.algorithm ≡ tsig_algorithm_named (algorithm_name tsig.algorithm)
  pub error : tsig.error ≡ optional_error (optional_error_number tsig.error)

-- the numbers and octets fit the octets that they have in the record
pub record TsigFits (tsig : TsigFields) : Type 0 where
  pub time : tsig.time < 2 ^ 48
  pub mac : length tsig.mac < 2 ^ 16
  pub other : length tsig.other < 2 ^ 16

-- ---- text

-- algorithm, time, fudge and MAC
unfoldable pub signed_text : TsigFields → List ℕ
signed_text tsig =
    name_text_without_dot (algorithm_name tsig.algorithm) ++ codes " " ++ decimal tsig.time ++ codes " "
    ++ decimal tsig.fudge
    ++ codes " " ++ lower_hex tsig.mac

-- original ID, error number and other data
unfoldable pub error_text : TsigFields → List ℕ
error_text tsig =
    decimal tsig.oid ++ codes " " ++ decimal (optional_error_number tsig.error) ++ codes " " ++ lower_hex tsig.other

-- the seven fields, one blank between each two
abbrev pub tsig_text : TsigFields → List ℕ
tsig_text tsig = signed_text tsig ++ codes " " ++ error_text tsig

-- ---- what a MAC covers

-- the class ANY, of every TSIG record (RFC 8945 4.2)
abbrev pub any_class : ℕ
any_class = classes.ANY

-- the time signed and the fudge (RFC 8945 5.3.1)
unfoldable pub tsig_timers : TsigData → List ℕ
tsig_timers tsig = six_octets tsig.time ++ two_octets tsig.fudge

-- whose key and which algorithm: the record's owner, its class and TTL, and the algorithm's name (RFC 8945 4.3.3)
unfoldable pub key_variables : List (List ℕ) → TsigData → List ℕ
key_variables owner tsig = wire (low owner) ++ two_octets any_class ++ four_octets 0 ++ wire (low tsig.algorithm)

-- the error and the other data behind their length (RFC 8945 4.3.3)
unfoldable pub error_variables : TsigData → List ℕ
error_variables tsig = two_octets tsig.error ++ two_octets (length tsig.other) ++ tsig.other

-- the TSIG variables (RFC 8945 4.3.3)
unfoldable pub tsig_variables : List (List ℕ) → TsigData → List ℕ
tsig_variables owner tsig = key_variables owner tsig ++ tsig_timers tsig ++ error_variables tsig

-- the same, or the first field that can't be written
abbrev pub written_variables : List (List ℕ) → TsigData → Result (List ℕ) EmitError
written_variables owner tsig =
    if nat_lt tsig.time (2 ^ 48) then
    (if nat_lt (length tsig.other) (2 ^ 16) then Ok (tsig_variables owner tsig) else Err OtherTooLong)
    else Err TimeTooLarge

-- the TSIG variables as fields, with an owner and an algorithm's name in lower case
abbrev pub variables_row : List Field
variables_row =
    any KeptName
    ∷ any (Number Two)
    ∷ any (Number Four)
    ∷ any KeptName
    ∷ any Time
    ∷ any (Number Two)
    ∷ any (Number Two)
    ∷ any (Counted Two OtherTooLong)
    ∷ []

abbrev pub variables_values : List (List ℕ) → List (List ℕ) → TsigData → List Value
variables_values owner algorithm tsig =
    Named owner ∷ Num any_class ∷ Num 0 ∷ Named algorithm ∷ Num tsig.time ∷ Num tsig.fudge ∷ Num tsig.error
    ∷ Str tsig.other ∷ []
