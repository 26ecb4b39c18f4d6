-- The messages that calls are on.
use Rattle.std.specs.Prelude.{◌≡◌, false, ℕ, List, map, Result, Ok, Err}
use Rattle.dns_wire.specs.declared.encoder.NameEncoding.TheVariants.{Uncompressed}
use Rattle.dns_wire.specs.declared.error.DecodeError.{DecodeError}
use Rattle.dns_wire.specs.Reading.{◌>>=◌}
use Rattle.dns_grammar.specs.Messages.{Message, ResourceRecord, message_at}
use Rattle.dns_grammar.specs.Laws.{unplaced_record}
use Rattle.dns_grammar.specs.MessageWriting.{message_octets}
use Rattle.dns_rdata.specs.RDataTable.{rdata_table}
use Rattle.dns_message.specs.Parts.{Parts, parts_of, whole}
use Rattle.dns_rows.specs.declared.refusal.Refusal.{Refusal}
use Rattle.dns_rows.specs.Refusals.{decode_refusal, emit_refusal, with_refusal}
use Rattle.dns_rows.specs.CallWords.{octets_in}

-- what is made of the message that stands in octets (RFC 1035 section 4.1)
abbrev pub of_message : {A : Type 0} → (Message → A) → List ℕ → Result A Refusal
of_message made octets = with_refusal decode_refusal (message_at rdata_table octets >>= λ read. Ok (made read.0))

-- whether a message stands in octets, or its first fault
abbrev pub is_message : List ℕ → Result (Unit {0}) Refusal
is_message = of_message (λ _. tt)

-- the parts of the message whose octets a word writes
abbrev pub message_in : List ℕ → Result Parts Refusal
message_in word = octets_in word >>= of_message parts_of

-- the octets of a message of these parts, its names as they are
abbrev pub octets_of_parts : Parts → Result (List ℕ) Refusal
octets_of_parts parts =
    with_refusal emit_refusal (message_octets false Uncompressed rdata_table (whole parts))

-- these are the answers of a message that was read, the places where they start aside
abbrev pub AreAnswersOf : Result (Message × ℕ) DecodeError → List ResourceRecord → Type 0
AreAnswersOf (Ok read) answers = answers ≡ map unplaced_record read.0.answers
AreAnswersOf (Err _) answers = ⊥
