-- A walk over the records of a message, in the order in which they stand.
use Rattle.std.specs.Prelude.{ℕ, zero, suc, ◌-◌, List, [], ◌∷◌, ◌++◌, Result, Ok, Err, IsOk}
use Rattle.dns_wire.specs.declared.error.DecodeError.{DecodeError}
use Rattle.dns_wire.specs.Reading.{◌>>=◌}
use Rattle.dns_names.specs.Skipping.{without_value}
use Rattle.dns_grammar.specs.Messages.{Header, ResourceRecord, header_at, queries_at, message_at}
use Rattle.dns_rdata.specs.RDataTable.{rdata_table}
use Rattle.dns_message.specs.declared.section.Section.{Section}
use Rattle.dns_message.specs.declared.section.Section.TheVariants as sections
use Rattle.message_walk.specs.declared.record_place.RecordPlace.{RecordPlace}
use Rattle.message_walk.specs.Places.{record_from, record_end}

-- the octets of a message, and where the records stand that are left
pub record Walk : Type 0 where
  pub message : List ℕ
  pub left : List RecordPlace

-- where a record that was read at p stands
abbrev pub read_place : Section → ℕ → Result (ResourceRecord × ℕ) DecodeError → RecordPlace
read_place section p (Ok read) = record {
  start = p;
  length = read.1 - p;
  section = section;
  rtype = read.0.rtype;
}
read_place section p (Err _) = record { start = p; length = 0; section = section; rtype = 0 }

-- where so many records of a section stand, from p on
unfoldable pub run_places : List ℕ → Section → ℕ → ℕ → List RecordPlace
run_places m section zero p = []
run_places m section (suc n) p = read_place section p (record_from m p) ∷ run_places m section n (record_end m p)

-- the place behind so many records from p
unfoldable pub run_end : List ℕ → ℕ → ℕ → ℕ
run_end m zero p = p
run_end m (suc n) p = run_end m n (record_end m p)

-- so many records stand one behind the other from p
unfoldable pub RunStands : List ℕ → ℕ → ℕ → Type 0
RunStands m zero p = Unit {0}
RunStands m (suc n) p = IsOk (record_from m p) × RunStands m n (record_end m p)

-- where the records stand that are left: so many answers from p, then so many authority and additional records
abbrev pub left_places : List ℕ → ℕ → (answers authorities additionals : ℕ) → List RecordPlace
left_places m p answers authorities additionals =
    let first = run_end m answers p in
    let second = run_end m authorities first in
    run_places m sections.Answer answers p
    ++ (run_places m sections.Authority authorities first ++ run_places m sections.Additional additionals second)

-- the records that are left stand there
pub record LeftStand (m : List ℕ) (p answers authorities additionals : ℕ) : Type 0 where
  pub answers_stand : RunStands m answers p
  pub authorities_stand : RunStands m authorities (run_end m answers p)
  pub additionals_stand : RunStands m additionals (run_end m authorities (run_end m answers p))

-- whether octets are a message, or its first fault
abbrev pub is_message : List ℕ → Result (Unit {0}) DecodeError
is_message m = message_at rdata_table m >>= λ _. Ok tt

-- the header of a message, and the place behind its questions
unfoldable pub records_start : List ℕ → Result (Header × ℕ) DecodeError
records_start m = do
  header ← header_at m
  queries ← without_value (queries_at header.0.questions m header.1)
  Ok (header.0, queries.1)
