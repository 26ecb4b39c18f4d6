-- What an accepted answer tells beside its records (RFC 8945 5.2.3, 5.3).
use Rattle.std.specs.Prelude.{Bool, ℕ, ◌%◌, nat_eq, if◌then◌else◌, List, length, Option, Some, None, Ok}
use Rattle.std.specs.Result.{result_ok}
use Rattle.dns_wire.specs.Reading.{◌>>=◌, time_at}
use Rattle.dns_grammar.specs.Messages.{Header, Message, Signature, signature_of}
use Rattle.sec_sigdata.specs.declared.tsig_error.TsigError.TheVariants.{BadTime}
use Rattle.sec_sigdata.specs.TsigErrors.{error_number}
use Rattle.sec_tsig.specs.declared.tsig_step.TsigStep.{TsigStep}

-- The number of the error that a first answer tells. The form of the MAC input of a later answer doesn't cover it
-- (RFC 8945 5.3.1).
abbrev pub notice_error : Bool → Option Signature → ℕ
notice_error first None = 0
notice_error first (Some signature) = if first then signature.tsig.error else 0

-- the time that octets are, where they are six (RFC 8945 5.2.3)
abbrev pub time_of_octets : List ℕ → Option ℕ
time_of_octets octets =
    if nat_eq (length octets) 6 then result_ok (time_at octets 0 6 >>= λ time. Ok time.0) else None

-- The server's time that a first answer with the error BADTIME tells in its other data (RFC 8945 5.2.3).
abbrev pub notice_time : Bool → Option Signature → Option ℕ
notice_time first None = None
notice_time first (Some signature) =
    if nat_eq (notice_error first (Some signature)) (error_number BadTime) then time_of_octets signature.tsig.other else None

-- the RCODE, the lowest four bits of the flags (RFC 1035 4.1.1)
abbrev pub rcode_of : Header → ℕ
rcode_of header = header.flags % 16

-- what an answer tells: the number of the TSIG error, the server's time, and the RCODE
pub record TsigNotice : Type 0 where
  pub tsig_error : ℕ
  pub server_time : Option ℕ
  pub rcode : ℕ

-- what an answer tells that has this header and this signature or none, and may be the first
abbrev pub notice_with : Bool → Header → Option Signature → TsigNotice
notice_with first header signature = record {
  tsig_error = notice_error first signature;
  server_time = notice_time first signature;
  rcode = rcode_of header;
}

-- the same of a message
abbrev pub notice_by : Bool → Message → TsigNotice
notice_by first message = notice_with first message.header (signature_of message)

-- what a step tells of its answer
abbrev pub step_notice : TsigStep → TsigNotice
step_notice step = record { tsig_error = step.tsig_error; server_time = step.server_time; rcode = step.rcode }
