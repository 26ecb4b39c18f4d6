-- What contracts see of a message in its octets (RFC 1035 4.1).
use Rattle.std.specs.Prelude.{◌≡◌, ℕ, ◌-◌, ◌≤◌, ◌<◌, ◌^◌, List, length, Option, Result, Ok, option_map, IfOk, IsOkAnd}
use Rattle.std.specs.Prelude.{OnOk}
use Rattle.std.specs.Option.{ForSome}
use Rattle.dns_wire.specs.declared.error.DecodeError.{DecodeError}
use Rattle.dns_wire.specs.Reading.{◌>>=◌, Gives}
use Rattle.dns_names.specs.Skipping.{without_value}
use Rattle.dns_grammar.specs.Messages as grammar
use Rattle.dns_grammar.specs.Messages.{Message, ResourceRecord, Signature, TsigData, MessageAt, message_at}
use Rattle.dns_grammar.specs.Messages.{outline_of, signature_from, queries_at, records_at, sized_header_at}
use Rattle.sec_sigdata.specs.TsigAlgorithms.{algorithm_name, tsig_algorithm_named}
use Rattle.dns_rdata.specs.RDataTable.{rdata_table}
use Rattle.dns_message.specs.declared.header.Header.{Header}
use Rattle.dns_message.specs.declared.query.Query.{Query}
use Rattle.dns_message.specs.declared.record_head.RecordHead.{RecordHead}
use Rattle.dns_message.specs.declared.tsig_view.TsigView.{TsigView}
use Rattle.dns_message.specs.declared.view.MessageView.{MessageView}

-- ---- what each part shows

abbrev pub header_view : Header → grammar.Header
header_view h = record {
  id = h.id;
  flags = h.flags;
  questions = h.questions;
  answers = h.answers;
  authorities = h.authorities;
  additionals = h.additionals;
}

abbrev pub query_view : Query → grammar.Query
query_view query = record { name = query.name; query_type = query.query_type; query_class = query.query_class }

abbrev pub head_view : RecordHead → grammar.RecordHead
head_view h = record {
  start = h.start;
  name = h.name;
  rtype = h.rtype;
  dns_class = h.dns_class;
  ttl = h.ttl;
  data_length = h.length;
}

-- the data of a transaction signature
abbrev pub tsig_view_data : TsigView → TsigData
tsig_view_data tsig = record {
  algorithm = algorithm_name tsig.algorithm;
  time = tsig.time;
  fudge = tsig.fudge;
  mac = tsig.mac.now;
  oid = tsig.oid;
  error = tsig.error;
  other = tsig.other.now;
}

abbrev pub tsig_view : TsigView → Signature
tsig_view tsig = record { start = tsig.start; name = tsig.owner; tsig = tsig_view_data tsig }

-- the parts of a view
abbrev pub view_header : MessageView → Header
view_header view = view.header

abbrev pub view_end : MessageView → ℕ
view_end view = view.end

abbrev pub view_tsig : MessageView → Option TsigView
view_tsig view = view.tsig

-- the outline of a message, and the place behind its parts
abbrev pub outline_view : MessageView → grammar.Outline × ℕ
outline_view view = (
  record { header = header_view (view_header view); signature = option_map tsig_view (view_tsig view) },
  view_end view,
)

-- ---- what a view of octets answers

-- the algorithm is that of its name, and numbers and octets fit the octets that they have in the record
pub record TsigViewFits (tsig : TsigView) : Type 0 where
  pub algorithm : tsig.algorithm ≡ tsig_algorithm_named (algorithm_name tsig.algorithm)
  pub time : tsig.time < 2 ^ 48
  pub mac : length tsig.mac.now < 2 ^ 16
  pub other : length tsig.other.now < 2 ^ 16

-- the record starts behind the header and within the octets, and is counted among the additionals
pub record IsPlaced (m : List ℕ) (header : Header) (tsig : TsigView) : Type 0 where
  pub fits : TsigViewFits tsig
  pub ahead : 12 ≤ tsig.start
  pub inside : tsig.start ≤ length m
  pub counted : 1 ≤ header.additionals

-- the outline of a message that is read
abbrev pub outlined : Result (Message × ℕ) DecodeError → Result (grammar.Outline × ℕ) DecodeError
outlined read = read >>= λ x. Ok (outline_of x.0, x.1)

-- The answer of a call that views octets: a view, exactly where a message stands in them, which shows its outline and
-- where it ends; or the first fault.
pub record ViewsMessage (m : List ℕ) (result : Result MessageView DecodeError) : Type 0 where
  -- what the reading function gives, the lists left out
  pub exact : Gives outline_view result (outlined (message_at rdata_table m))
  -- what is shown stands there
  pub found : IfOk result (λ view. (message : Message) × MessageAt rdata_table m message (view_end view)
      × ((outline_view view).0 ≡ outline_of message))
  -- what stands there is shown
  pub only : (message : Message) (e : ℕ) → MessageAt rdata_table m message e
      → IsOkAnd result (λ view. outline_view view ≡ (outline_of message, e))
  -- the signature is one that can stand there
  pub placed : IfOk result (λ view. ForSome (view_tsig view) (IsPlaced m (view_header view)))
  -- there is a header
  pub header : OnOk result (12 ≤ length m)

-- ---- how a view is read

-- a record that is read, as a transaction signature
abbrev pub as_signature : Result (ResourceRecord × ℕ) DecodeError → Result (Option Signature × ℕ) DecodeError
as_signature read = read >>= λ rr. Ok (signature_from rr.0, rr.1)

-- a head that is read, seen by a view
abbrev pub map_head : {X : Type 0} → (grammar.RecordHead → X) → Result (grammar.RecordHead × ℕ) DecodeError
    → Result (X × ℕ) DecodeError
map_head view read = read >>= λ head. Ok (view head.0, head.1)

-- the header of a message, and the place behind its questions and all its records but the last additional
unfoldable pub ahead_at : List ℕ → Result (grammar.Header × ℕ) DecodeError
ahead_at m = do
  header ← sized_header_at m
  queries ← without_value (queries_at header.0.questions m header.1)
  answers ← without_value (records_at rdata_table header.0.answers m queries.1)
  authorities ← without_value (records_at rdata_table header.0.authorities m answers.1)
  others ← without_value (records_at rdata_table (header.0.additionals - 1) m authorities.1)
  Ok (header.0, others.1)
