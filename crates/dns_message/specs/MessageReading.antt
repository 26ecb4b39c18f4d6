-- How a message is read into memory, from left to right.
use Rattle.std.specs.Prelude.{false, ℕ, ◌-◌, List, None, Result, Ok}
use Rattle.dns_wire.specs.declared.error.DecodeError.{DecodeError}
use Rattle.dns_wire.specs.Reading.{◌>>=◌, each_at}
use Rattle.dns_grammar.specs.Laws.{unplaced_record}
use Rattle.dns_grammar.specs.Messages.{ResourceRecord, NotTsig, record_at, queries_at, sized_header_at, message_at}
use Rattle.dns_rdata.specs.RDataTable.{rdata_table}
use Rattle.dns_message.specs.declared.message.Message.{Message}
use Rattle.dns_message.specs.declared.message_reading.LastRecord.{LastRecord}
use Rattle.dns_message.specs.declared.message_reading.LastRecord.TheVariants.{Other, Signature}
use Rattle.dns_message.specs.OwnedMessages.{Placed, standing, IsReadRecord, IsReadTsig}
use Rattle.dns_message.specs.Parts.{Parts, record_view, tsig_record_view, message_parts}

-- the parts and places of a message that is read
abbrev pub parts_at : List ℕ → Result Placed DecodeError
parts_at m = message_at rdata_table m >>= λ x. Ok (standing x)

-- a record that is read, the place where it stands aside
abbrev pub unplaced_at : Result (ResourceRecord × ℕ) DecodeError → Result (ResourceRecord × ℕ) DecodeError
unplaced_at read = read >>= λ rr. Ok (unplaced_record rr.0, rr.1)

-- so many records from p, none of them the last additional, the places where they stand aside
abbrev pub others_at : ℕ → List ℕ → ℕ → Result (List ResourceRecord × ℕ) DecodeError
others_at n m p = each_at (λ q. unplaced_at (record_at rdata_table false m q)) n p

-- the last additional record
abbrev pub last_view : LastRecord → ResourceRecord
last_view (Other rr) = record_view rr
last_view (Signature rr) = tsig_record_view rr

-- No type and no code that has a name of its own is called unknown, and a transaction signature isn't called another.
abbrev pub IsReadLast : LastRecord → Type 0
IsReadLast (Other rr) = IsReadRecord rr × NotTsig (record_view rr)
IsReadLast (Signature rr) = IsReadTsig rr

-- a message before its last additional record, and how many additional records its header counts
abbrev pub ahead_view : Message × ℕ → Parts × ℕ
ahead_view x = (message_parts x.0, x.1)

-- the parts of a message, its last additional record aside; how many additionals its header counts, and the place where
-- the last stands
unfoldable pub parts_ahead_at : List ℕ → Result ((Parts × ℕ) × ℕ) DecodeError
parts_ahead_at m = do
  header ← sized_header_at m
  queries ← queries_at header.0.questions m header.1
  answers ← others_at header.0.answers m queries.1
  authorities ← others_at header.0.authorities m answers.1
  additionals ← others_at (header.0.additionals - 1) m authorities.1
  Ok (
    (
      record {
        id = header.0.id;
        flags = header.0.flags;
        queries = queries.0;
        answers = answers.0;
        authorities = authorities.0;
        additionals = additionals.0;
        signature = None;
      },
      header.0.additionals,
    ),
    additionals.1,
  )
