-- What the calls on transaction signatures answer (RFC 8945).
use Rattle.std.specs.Prelude.{Bool, ℕ, ◌-◌, nat_eq, nat_lt, not, if◌then◌else◌, List, ◌++◌, length, take, drop}
use Rattle.std.specs.Prelude.{Option, Some, None, is_some, unwrap_or, Result, Ok, Err, replicate}
use Rattle.dns_wire.specs.declared.error.DecodeError.{DecodeError}
use Rattle.dns_wire.specs.Reading.{◌>>=◌}
use Rattle.dns_grammar.specs.Messages.{Message, Signature, message_at, signature_of}
use Rattle.dns_rdata.specs.RDataTable.{rdata_table}
use Rattle.sec_digest.specs.declared.hmac.HmacHash.{HmacHash}
use Rattle.sec_digest.specs.declared.hmac.HmacHash.TheVariants as hashes
use Rattle.sec_sigdata.specs.TsigAlgorithms.{hash_of, tsig_algorithm_named}
use Rattle.sec_tsig.specs.declared.request_error.RequestError.{RequestError}
use Rattle.sec_tsig.specs.declared.request_error.RequestError.TheVariants as requests
use Rattle.sec_tsig.specs.declared.verify_error.VerifyError.{VerifyError}
use Rattle.sec_tsig.specs.declared.verify_error.VerifyError.TheVariants as causes
use Rattle.sec_tsig.specs.Requests.{signed_or_cause}
use Rattle.sec_tsig.specs.Signers.{Signer}
use Rattle.sec_tsig.specs.Notices.{TsigNotice, notice_by}
use Rattle.sec_tsig.specs.Verdict.{TsigChain, first_chain, verdict}
use Rattle.dns_c.specs.declared.transaction.PspAnswer.{PspAnswer}
use Rattle.dns_c.specs.declared.transaction.PspChain.{PspChain}
use Rattle.dns_c.specs.declared.transaction.PspTsig.{PspTsig}
use Rattle.dns_c.specs.declared.status.Status.{Status}
use Rattle.dns_c.specs.declared.status.Status.TheVariants as status
use Rattle.dns_c.specs.Arguments.{hash_of_number, wire_name}
use Rattle.dns_c.specs.Answered.{number_of}

-- who signs, by what a caller hands in
abbrev pub signer_from : ℕ → List ℕ → List ℕ → ℕ → Result Signer Status
signer_from number key octets fudge = do
  hash ← hash_of_number number
  name ← wire_name octets
  Ok (record { key = key; algorithm = hash; name = name; fudge = fudge })

-- ---- chains in the caller's memory

-- a MAC with zero octets behind it
abbrev pub kept_mac : List ℕ → List ℕ
kept_mac mac = mac ++ replicate (64 - length mac) 0

-- a chain as the caller keeps it
abbrev pub chain_for : TsigChain → PspChain
chain_for chain = record {
  request_time = chain.request_time;
  time = chain.time;
  first = if chain.first then 1 else 0;
  mac_len = length chain.mac;
  mac = kept_mac chain.mac;
}

-- the chain that a caller keeps, for this signer
abbrev pub chain_from : PspChain → Signer → Result TsigChain Status
chain_from kept signer =
    if nat_lt 64 kept.mac_len then Err status.BadChain
    else Ok (
    record {
      signer = signer;
      request_time = kept.request_time;
      mac = take kept.mac_len kept.mac;
      time = kept.time;
      first = not (nat_eq kept.first 0);
    }
    )

-- ---- signing

-- the status of a request that is not signed
abbrev pub request_status : RequestError → Status
request_status requests.TimeTooLarge = status.TimeTooLarge
request_status requests.NotARequest = status.NotARequest
request_status requests.CountTooLarge = status.CountTooLarge
request_status requests.MessageTooLong = status.MessageTooLong

abbrev pub or_request_status : Result (List ℕ) RequestError → Result (List ℕ) Status
or_request_status (Ok octets) = Ok octets
or_request_status (Err cause) = Err (request_status cause)

-- the signed request of these octets with the chain before the first answer
abbrev pub signed_by : Result Signer Status → ℕ → List ℕ → Result (List ℕ × TsigChain) Status
signed_by signer time request = do
  who ← signer
  octets ← or_request_status (signed_or_cause who time request)
  Ok (octets, first_chain who time request)

-- What a call tells that signs: the status, the room, the length and the chain behind it. The chain is told where the room
-- is long enough, and else stays as it was.
abbrev pub answered_signed : Result (List ℕ × TsigChain) Status → List ℕ → ℕ → PspChain → ℕ × List ℕ × ℕ × PspChain
answered_signed (Ok signed) out out_len chain =
    if nat_lt (length out) (length signed.0) then (number_of status.OutTooShort, out, length signed.0, chain)
    else (number_of status.Done, signed.0 ++ drop (length signed.0) out, length signed.0, chain_for signed.1)
answered_signed (Err refusal) out out_len chain = (number_of refusal, out, out_len, chain)

-- ---- checking

-- the status of an answer that is not accepted; want of memory is none of them
abbrev pub verify_status : VerifyError → Status
verify_status causes.Decode = status.NotAMessage
verify_status causes.MissingTsig = status.MissingTsig
verify_status causes.TsigWrongKey = status.WrongKey
verify_status causes.TruncatedMac = status.TruncatedMac
verify_status causes.HmacInvalid = status.WrongMac
verify_status causes.Outdated = status.Outdated
verify_status causes.NotAResponse = status.NotAResponse
verify_status causes.OutOfMemory = status.NotAMessage

abbrev pub or_verify_status : Result TsigChain VerifyError → Result TsigChain Status
or_verify_status (Ok chain) = Ok chain
or_verify_status (Err cause) = Err (verify_status cause)

-- what is told to the caller of an answer
abbrev pub answer_for : TsigNotice → PspAnswer
answer_for told = record {
  server_time = unwrap_or told.server_time 0;
  tsig_error = told.tsig_error;
  rcode = told.rcode;
  has_time = if is_some told.server_time then 1 else 0;
}

-- the same of octets by what reading them gives, which for an accepted answer is a message
abbrev pub answer_read : Bool → Result (Message × ℕ) DecodeError → PspAnswer
answer_read first (Ok read) = answer_for (notice_by first read.0)
answer_read first (Err _) = record { server_time = 0; tsig_error = 0; rcode = 0; has_time = 0 }

-- the chain behind an accepted answer, and what that tells
abbrev pub checked_by : Result Signer Status → PspChain → List ℕ → Result (PspChain × PspAnswer) Status
checked_by signer kept octets = do
  who ← signer
  chain ← chain_from kept who
  next ← or_verify_status (verdict chain octets)
  Ok (chain_for next, answer_read chain.first (message_at rdata_table octets))

-- ---- reading

-- the number of a hash function, 0 for none
abbrev pub hash_number : Option HmacHash → ℕ
hash_number None = 0
hash_number (Some hashes.Sha256) = 256
hash_number (Some hashes.Sha384) = 384
hash_number (Some hashes.Sha512) = 512

-- a transaction signature as it is told
abbrev pub tsig_for : Signature → PspTsig
tsig_for signature = record {
  time = signature.tsig.time;
  start = signature.start;
  mac_len = length signature.tsig.mac;
  hash = hash_number (hash_of (tsig_algorithm_named signature.tsig.algorithm));
  fudge = signature.tsig.fudge;
  error = signature.tsig.error;
}

abbrev pub tsig_or_status : Option Signature → Result PspTsig Status
tsig_or_status (Some signature) = Ok (tsig_for signature)
tsig_or_status None = Err status.MissingTsig

abbrev pub tsig_read : Result (Message × ℕ) DecodeError → Result PspTsig Status
tsig_read (Ok read) = tsig_or_status (signature_of read.0)
tsig_read (Err _) = Err status.NotAMessage

-- the transaction signature of the message that stands in octets
abbrev pub tsig_of : List ℕ → Result PspTsig Status
tsig_of octets = tsig_read (message_at rdata_table octets)
