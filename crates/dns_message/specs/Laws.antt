-- What is true of messages. Each of these statements is proved by a function of the module `laws`.
use Rattle.std.specs.Prelude.{◌≡◌, ◌≢◌, ◌⊎◌, ◌↔◌, false, ℕ, ◌≤◌, List, length, Option, Some, None, option_map}
use Rattle.std.specs.Prelude.{Result, Ok, Err}
use Rattle.std.specs.List.{Contains}
use Rattle.dns_wire.specs.declared.encoder.NameEncoding.TheVariants.{Uncompressed}
use Rattle.dns_wire.specs.declared.error.DecodeError.{DecodeError}
use Rattle.dns_wire.specs.declared.error.DecodeError.TheVariants.{OutOfMemory}
use Rattle.dns_wire.specs.Octets.{AreOctets}
use Rattle.dns_wire.specs.Reading.{◌>>=◌}
use Rattle.dns_types.specs.TypeNumbers as types
use Rattle.dns_grammar.specs.Messages.{Signature, message_at}
use Rattle.dns_rdata.specs.declared.rdata.RData.{RData}
use Rattle.dns_rdata.specs.RData.{rdata_type}
use Rattle.dns_rdata.specs.RDataTable.{rdata_table}
use Rattle.sec_codes.specs.declared.proof.Proof.TheVariants as proof
use Rattle.sec_sigdata.specs.declared.tsig.TSIG.{TSIG}
use Rattle.sec_sigdata.specs.TsigRecords.{tsig_data}
use Rattle.dns_message.specs.declared.dnssec.DnssecSummary.TheVariants.{Bogus}
use Rattle.dns_message.specs.declared.message.Message.{Message}
use Rattle.dns_message.specs.declared.message.Places.{Places}
use Rattle.dns_message.specs.declared.record.Record.{Record}
use Rattle.dns_message.specs.declared.view.MessageView.{MessageView}
use Rattle.dns_message.specs.MessageWriting.{written_message}
use Rattle.dns_message.specs.OwnedMessages.{standing, standing_parts, held, IsReadMessage, ReadsMessage}
use Rattle.dns_message.specs.Parts.{Parts, message_parts, parts_of, whole}
use Rattle.dns_message.specs.Summary.{summary}
use Rattle.dns_message.specs.Views.{header_view, tsig_view, view_header, view_end, view_tsig, ViewsMessage}

-- ---- reading again

-- the parts of the message that is read of octets, and the place behind them
abbrev pub parts_and_end : List ℕ → Result (Parts × ℕ) DecodeError
parts_and_end m = message_at rdata_table m >>= λ x. Ok (parts_of x.0, x.1)

-- A message that was read of octets, and is written outside canonical form, its names as they are, in at most 65,535
-- octets, is read of these as a message with the same parts, which ends where they end.
abbrev pub MessageIsReadAgain : Type 0
MessageIsReadAgain = (m : List ℕ) (message : Message) (x : List ℕ)
    → AreOctets m → ReadsMessage message_parts standing_parts m (Ok message) → IsReadMessage message
    → written_message false Uncompressed message ≡ Ok x → length x ≤ 65535
    → parts_and_end x ≡ Ok (message_parts message, length x)

-- ---- views and messages

-- the transaction signature of a message, with the place where its record starts
abbrev pub held_signature : Option (Record TSIG) → Option ℕ → Option Signature
held_signature (Some rr) (Some start) = Some (record { start = start; name = rr.name; tsig = tsig_data rr.rdata })
held_signature (Some rr) None = None
held_signature None start = None

-- a view shows the header that counts the lists of a message, its end, and its signature with the place where that
-- starts
pub record ShowsMessage (view : MessageView) (message : Message) (places : Places) : Type 0 where
  pub header : header_view (view_header view) ≡ (whole (message_parts message)).header
  pub end : view_end view ≡ places.end
  pub signature : option_map tsig_view (view_tsig view) ≡ held_signature message.signature places.signature

-- A view and a message that were read of the same octets agree.
abbrev pub ViewShowsMessage : Type 0
ViewShowsMessage = (m : List ℕ) (view : MessageView) (message : Message) (places : Places)
    → ViewsMessage m (Ok view) → ReadsMessage held standing m (Ok (message, places))
    → ShowsMessage view message places

-- Where octets are no message, a view and the reading of a message have the same fault, want of memory aside.
abbrev pub OneFault : Type 0
OneFault = (m : List ℕ) (viewed : Result MessageView DecodeError) (fault : DecodeError)
    → ViewsMessage m viewed → ReadsMessage held standing m (Err fault)
    → (fault ≡ OutOfMemory) ⊎ (viewed ≡ Err fault)

-- ---- the proofs of records

-- a record other than an RRSIG is Bogus
pub record IsBogusRecord (rr : Record RData) : Type 0 where
  pub other : rdata_type rr.rdata ≢ types.RRSIG
  pub proof : rr.proof ≡ proof.Bogus

-- Records are Bogus together exactly where one of them is that is no RRSIG.
abbrev pub BogusWhereOneIs : Type 0
BogusWhereOneIs = (records : List (Record RData))
    → (summary records ≡ Bogus) ↔ ((rr : Record RData) × Contains records rr × IsBogusRecord rr)
