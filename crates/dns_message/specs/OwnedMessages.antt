-- What reading a message into memory answers.
use Rattle.std.specs.Prelude.{◌≡◌, ◌⊎◌, ℕ, List, Option, Result, Ok, Err, option_map, IfOk, IsOkAnd}
use Rattle.std.specs.List.{AllByRecursion}
use Rattle.std.specs.Option.{ForSome}
use Rattle.dns_wire.specs.declared.error.DecodeError.{DecodeError}
use Rattle.dns_wire.specs.declared.error.DecodeError.TheVariants.{OutOfMemory}
use Rattle.dns_wire.specs.Reading.{◌>>=◌, GivesUnless}
use Rattle.dns_grammar.specs.Messages as grammar
use Rattle.dns_grammar.specs.Messages.{MessageAt, message_at}
use Rattle.sec_codes.specs.declared.proof.Proof.TheVariants.{Indeterminate}
use Rattle.sec_sigdata.specs.declared.tsig.TSIG.{TSIG}
use Rattle.sec_sigdata.specs.TsigRecords.{tsig_fields, TsigIsByNumber, TsigFits}
use Rattle.dns_rdata.specs.declared.rdata.RData.{RData}
use Rattle.dns_rdata.specs.RData.{rdata_type, IsOfType}
use Rattle.dns_rdata.specs.RDataTable.{rdata_table}
use Rattle.dns_message.specs.declared.message.Message.{Message}
use Rattle.dns_message.specs.declared.message.Places.{Places}
use Rattle.dns_message.specs.declared.record.Record.{Record}
use Rattle.dns_message.specs.Parts.{Parts, message_parts, parts_of, last_tsig}

-- ---- what was read

-- No type and no code that has a name of its own is called unknown, and nothing is proved of the record.
pub record IsReadRecord (rr : Record RData) : Type 0 where
  pub by_number : IsOfType (rdata_type rr.rdata) rr.rdata
  pub proof : rr.proof ≡ Indeterminate

-- the same of a transaction signature
pub record IsReadTsig (rr : Record TSIG) : Type 0 where
  pub by_number : TsigIsByNumber (tsig_fields rr.rdata)
  pub fits : TsigFits (tsig_fields rr.rdata)
  pub proof : rr.proof ≡ Indeterminate

-- the same of each record of a message
pub record IsReadMessage (message : Message) : Type 0 where
  pub answers : AllByRecursion IsReadRecord message.answers.items
  pub authorities : AllByRecursion IsReadRecord message.authorities.items
  pub additionals : AllByRecursion IsReadRecord message.additionals.items
  pub signature : ForSome message.signature IsReadTsig

-- ---- what reading answers

-- parts, where the record of the signature starts, and where the last part ends
abbrev pub Placed : Type 0
Placed = Parts × (Option ℕ × ℕ)

abbrev pub held : Message × Places → Placed
held x = (message_parts x.0, (x.1.signature, x.1.end))

abbrev pub standing : grammar.Message × ℕ → Placed
standing x = (parts_of x.0, (option_map (λ rr. rr.start) (last_tsig x.0.additionals), x.1))

-- the parts alone
abbrev pub standing_parts : grammar.Message × ℕ → Parts
standing_parts x = parts_of x.0

-- The answer of a call that reads octets into memory, of which a contract sees `view`: what `of` makes of a message,
-- exactly where one stands in the octets; or the first fault. Want of memory may come in place of any answer.
pub record ReadsMessage {X Y : Type 0} (view : X → Y) (of : grammar.Message × ℕ → Y) (m : List ℕ)
    (result : Result X DecodeError) : Type 0 where
  -- what the reading function gives
  pub exact : GivesUnless OutOfMemory view result (message_at rdata_table m >>= λ x. Ok (of x))
  -- what is answered stands there
  pub found : IfOk result (λ x. (message : grammar.Message) × (e : ℕ) × MessageAt rdata_table m message e
      × (view x ≡ of (message, e)))
  -- what stands there is answered
  pub only : (message : grammar.Message) (e : ℕ) → MessageAt rdata_table m message e
      → (result ≡ Err OutOfMemory) ⊎ IsOkAnd result (λ x. view x ≡ of (message, e))
