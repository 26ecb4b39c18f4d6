-- Which messages that are held in memory are signed, and how.
use Rattle.std.specs.Prelude.{ℕ, Bool, ◌||◌, nat_eq, List, Result, Ok, Err}
use Rattle.std.specs.List.{list_any}
use Rattle.dns_wire.specs.declared.error.EmitError.{EmitError}
use Rattle.dns_types.specs.TypeNumbers as types
use Rattle.dns_message.specs.declared.message.Message.{Message}
use Rattle.dns_message.specs.declared.query.Query.{Query}
use Rattle.dns_message.specs.Parts.{op_code_of}
use Rattle.sec_tsig.specs.declared.sign_error.TsigSignError.{TsigSignError}
use Rattle.sec_tsig.specs.declared.sign_error.TsigSignError.TheVariants as causes
use Rattle.sec_tsig.specs.Tsig.{TsigRecord}
use Rattle.sec_tsig.specs.Signers.{Signer}
use Rattle.sec_tsig.specs.Verdict.{TsigChain, signed_octets}

-- the opcodes of NOTIFY (RFC 1996 3.2) and UPDATE (RFC 2136 1.3)
abbrev pub notify : ℕ
notify = 4

abbrev pub update : ℕ
update = 5

-- a question for the transfer of a zone (RFC 5936 2.1, RFC 1995 2)
abbrev pub is_transfer : Query → Bool
is_transfer query = nat_eq query.query_type types.AXFR || nat_eq query.query_type types.IXFR

-- a message that is to be signed
abbrev pub should_sign : Message → Bool
should_sign message =
    nat_eq (op_code_of message.flags) notify
    || (nat_eq (op_code_of message.flags) update || list_any is_transfer message.queries.items)

-- The record that signs a message that is written as these octets, and the chain before the first answer to it; or the
-- cause why the message can't be written, and then why its octets can't be signed.
abbrev pub signed_message : Signer → ℕ → Result (List ℕ) EmitError → Result (TsigRecord × TsigChain) TsigSignError
signed_message signer time (Ok octets) = signed_octets signer time octets
signed_message signer time (Err cause) = Err (causes.Message cause)
