-- What contracts see of signers and verifiers.
use Rattle.std.specs.Prelude.{◌≡◌, ◌⊎◌, ℕ, List, Result, Ok, Err}
use Rattle.dns_wire.specs.declared.error.EmitError.{EmitError}
use Rattle.dns_wire.specs.declared.error.EmitError.TheVariants as emit_errors
use Rattle.dns_grammar.specs.Messages.{Message, MessageAt}
use Rattle.sec_digest.specs.Mac.{mac_octets}
use Rattle.dns_rdata.specs.RDataTable.{rdata_table}
use Rattle.dns_message.specs.declared.response.DnsResponse.{DnsResponse}
use Rattle.dns_message.specs.OwnedMessages.{IsReadMessage}
use Rattle.dns_message.specs.Parts.{parts_of}
use Rattle.dns_message.specs.Responses.{response_octets, response_message, response_parts}
use Rattle.sec_tsig.specs.declared.tsig_step.TsigStep.{TsigStep}
use Rattle.sec_tsig.specs.declared.verify_error.VerifyError.{VerifyError}
use Rattle.sec_tsig.specs.declared.verify_error.VerifyError.TheVariants as causes
use Rattle.std.specs.declared.ops.Range.{Range}
use Rattle.std.specs.Global.{Vec}
use Rattle.sec_tsig.specs.Verdict.{TsigChain, advanced}
use Rattle.sec_tsig.specs.Received.{Checked}

-- the chain after an accepted answer
abbrev pub stepped : TsigChain → TsigStep → TsigChain
stepped chain step = advanced chain (mac_octets step.mac) step.time

-- the answer is the verdict; Ok moved the chain, and a refusal left it as it was
abbrev pub MovesChain : {X : Type 0} → Result X VerifyError → TsigChain → TsigChain → Result TsigChain VerifyError → Type 0
MovesChain (Ok _) old new verdict = verdict ≡ Ok new
MovesChain (Err cause) old new verdict = (verdict ≡ Err cause) × (new ≡ old)

-- the same, but that out of memory may come in place of any answer
abbrev pub MovesChainUnless : {X : Type 0} → Result X VerifyError → TsigChain → TsigChain → Result TsigChain VerifyError → Type 0
MovesChainUnless (Ok _) old new verdict = verdict ≡ Ok new
MovesChainUnless (Err cause) old new verdict = ((cause ≡ causes.OutOfMemory) ⊎ (verdict ≡ Err cause)) × (new ≡ old)

-- the response that stands in octets, as it is read
pub record IsResponseOf (m : List ℕ) (response : DnsResponse) : Type 0 where
  pub octets : response_octets response ≡ m
  pub message : (message : Message) × (e : ℕ) × MessageAt rdata_table m message e
      × (response_parts response ≡ parts_of message)
  pub as_read : IsReadMessage (response_message response)

-- a MAC, the time signed and the window
abbrev pub checked_view : Vec ℕ × ℕ × Range ℕ → Checked
checked_view x = record { mac = x.0.items; time = x.1; start = x.2.start; end = x.2.end }

-- Ok made of the old octets those that the definition gives; an error is out of memory or the definition's, and left
-- them as they were
abbrev pub Becomes : Result (Unit {0}) EmitError → List ℕ → List ℕ → Result (List ℕ) EmitError → Type 0
Becomes (Ok _) old new given = given ≡ Ok new
Becomes (Err cause) old new given = ((cause ≡ emit_errors.OutOfMemory) ⊎ (given ≡ Err cause)) × (new ≡ old)
