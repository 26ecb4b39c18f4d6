-- What is true of the definitions. Each of these statements is proved by a function of the module `laws`.
use Rattle.std.specs.Prelude.{◌≡◌, ◌⊎◌, ℕ, ◌+◌, ◌-◌, ◌^◌, ◌≤◌, ◌<◌, List, length, slice_range, true, false}
use Rattle.std.specs.Prelude.{None, Some, Ok, Err}
use Rattle.std.specs.Int.{w16, from_be_bytes}
use Rattle.std.specs.List.{AllByRecursion}
use Rattle.dns_wire.specs.declared.encoder.NameEncoding.TheVariants.{Uncompressed}
use Rattle.dns_wire.specs.Octets.{AreOctets}
use Rattle.dns_names.specs.Names.{IsName, Same}
use Rattle.dns_grammar.specs.Messages.{Message, MessageAt, Signature, HasTsig, signature_of}
use Rattle.dns_rdata.specs.RDataTable.{rdata_table}
use Rattle.dns_message.specs.declared.message.Message.{Message as HeldMessage}
use Rattle.dns_message.specs.MessageWriting.{written_message}
use Rattle.sec_sigdata.specs.TsigErrors.{optional_error_number}
use Rattle.sec_tsig.specs.declared.verify_error.VerifyError.TheVariants as causes
use Rattle.sec_tsig.specs.Tsig.{received_input, IsCounted, TsigRecord, with_record}
use Rattle.sec_tsig.specs.Signers.{algorithm_name, message_id, Signer, signed_later}
use Rattle.sec_tsig.specs.Verdict.{TsigChain, advanced, expected_mac, signature_verdict, verdict, window_start, window_end}
use Rattle.sec_tsig.specs.Verdict.{signed_octets, with_signature}
use Rattle.sec_tsig.specs.Received.{checked_message}
use Rattle.sec_tsig.specs.Responses.{Reply, Response, Signed, WithServerTime, response_record}

-- ---- the verdict, by the message that stands in the octets

-- octets in which no message stands
abbrev pub IsNoMessage : List ℕ → Type 0
IsNoMessage octets = (message : Message) (e : ℕ) → MessageAt rdata_table octets message e → ⊥

-- Where a message stands, whatever is after it, its header and its TSIG decide the verdict.
abbrev pub VerdictIsByMessage : Type 0
VerdictIsByMessage = (chain : TsigChain) (octets : List ℕ) (message : Message) (e : ℕ)
    → MessageAt rdata_table octets message e
    → verdict chain octets ≡ with_signature (signature_verdict chain octets) message.header (signature_of message)

-- Where none stands, the verdict is Decode.
abbrev pub NoMessageIsDecode : Type 0
NoMessageIsDecode = (chain : TsigChain) (octets : List ℕ)
    → IsNoMessage octets → verdict chain octets ≡ Err causes.Decode

-- Octets are a valid response for a chain, whose TSIG this is (RFC 8945 5.2 to 5.4).
pub record IsValidResponse (chain : TsigChain) (m : List ℕ) (s : Signature) : Type 0 where
  pub message : Message
  pub end : ℕ
  pub has : HasTsig rdata_table m message s end
  -- the key and its algorithm
  pub owner : Same chain.signer.name s.name
  pub algorithm : s.tsig.algorithm ≡ algorithm_name chain.signer.algorithm
  -- the MAC
  pub mac : s.tsig.mac ≡ expected_mac chain.signer (Some chain.mac) chain.first m message.header s
  -- not signed before the last one, and the request sent within the window
  pub in_order : chain.time ≤ s.tsig.time
  pub from_start : window_start s ≤ chain.request_time
  pub before_end : chain.request_time < window_end s
  -- QR is set
  pub response : 0x8000 ≤ message.header.flags

-- Every valid response is accepted, and moves the chain to its MAC and its time.
abbrev pub ValidIsAccepted : Type 0
ValidIsAccepted = (chain : TsigChain) (m : List ℕ) (s : Signature) → IsValidResponse chain m s
    → verdict chain m ≡ Ok (advanced chain s.tsig.mac s.tsig.time)

-- What is accepted is a valid response, and moved the chain so.
abbrev pub AcceptedIsValid : Type 0
AcceptedIsValid = (chain next : TsigChain) (m : List ℕ) → verdict chain m ≡ Ok next
    → (s : Signature) × IsValidResponse chain m s × (next ≡ advanced chain s.tsig.mac s.tsig.time)

-- ---- one reading

-- what two accepted messages have in common that have one MAC input
pub record OneReading (chain other : TsigChain) (m n : List ℕ) (s t : Signature) : Type 0 where
  pub macs : chain.mac ≡ other.mac
  pub forms : chain.first ≡ other.first
  pub oids : s.tsig.oid ≡ t.tsig.oid
  pub octets : slice_range m 2 s.start ≡ slice_range n 2 t.start
  pub times : s.tsig.time ≡ t.tsig.time
  pub fudges : s.tsig.fudge ≡ t.tsig.fudge
  -- what the first form covers besides
  pub owners : chain.first ≡ true → Same s.name t.name
  pub algorithms : chain.first ≡ true → s.tsig.algorithm ≡ t.tsig.algorithm
  pub errors : chain.first ≡ true → s.tsig.error ≡ t.tsig.error
  pub others : chain.first ≡ true → s.tsig.other ≡ t.tsig.other

-- Octets under a MAC have one reading: two messages m and n that two chains accept, and whose MAC inputs are equal, say
-- the same up to their signatures but for the ID that was received, and have the same chains after them as far as MACs
-- tell.
abbrev pub InputHasOneReading : Type 0
InputHasOneReading = (chain other : TsigChain) (m n : List ℕ) (s t : Signature)
    (valid : IsValidResponse chain m s) (valid1 : IsValidResponse other n t)
    → AreOctets m → AreOctets n → IsCounted chain.mac → IsCounted other.mac
    → received_input (Some chain.mac) chain.first m valid.message.header s
    ≡ received_input (Some other.mac) other.first n valid1.message.header t
    → OneReading chain other m n s t

-- ---- what was signed passes its check

-- a signer whose name and fudge fit their fields (RFC 8945 4.2), as those of every signer do
pub record IsSigner (signer : Signer) : Type 0 where
  pub name : IsName signer.name
  pub fudge : signer.fudge < 2 ^ 16

-- octets in which a message stands, and nothing is after it
abbrev pub IsWhole : List ℕ → Type 0
IsWhole octets = (message : Message) × MessageAt rdata_table octets message (length octets)

-- a message in memory without a signature, whose names are names, as those of every message in memory are
pub record IsUnsigned (message : HeldMessage) : Type 0 where
  pub unsigned : message.signature ≡ None
  pub queries : AllByRecursion (λ query. IsName query.name) message.queries.items
  pub answers : AllByRecursion (λ rr. IsName rr.name) message.answers.items
  pub authorities : AllByRecursion (λ rr. IsName rr.name) message.authorities.items
  pub additionals : AllByRecursion (λ rr. IsName rr.name) message.additionals.items

-- octets that are written of such a message
abbrev pub IsWritten : List ℕ → Type 0
IsWritten octets =
    (message : HeldMessage) × IsUnsigned message × (written_message false Uncompressed message ≡ Ok octets)

-- Octets are a message, or are written of one, and with a TSIG record put after them they are a message (RFC 8945 5.1).
-- So they had no TSIG, which would not be the last record now. That they are a message with the record is a premise,
-- since a name may point at the additional count, which is one more now.
pub record IsJoined (octets : List ℕ) (rr : TsigRecord) (signed : List ℕ) : Type 0 where
  pub are_octets : AreOctets octets
  pub before : IsWhole octets ⊎ IsWritten octets
  pub joined : with_record octets rr ≡ Ok signed
  pub message : Message
  pub end : ℕ
  pub stands : MessageAt rdata_table signed message end

-- A signed request passes its own check, as a first message with no MAC before it (RFC 8945 5.1, 5.2): the check answers
-- the MAC, the time and the window of its record. A message in memory is signed as the octets that are written of it.
abbrev pub RequestPasses : Type 0
RequestPasses = (signer : Signer) (time : ℕ) (octets : List ℕ) (rr : TsigRecord) (chain : TsigChain) (signed : List ℕ)
    → IsSigner signer → signed_octets signer time octets ≡ Ok (rr, chain) → IsJoined octets rr signed
    → checked_message signer None true signed
    ≡ Ok (record { mac = rr.tsig.mac; time = time; start = time - signer.fudge; end = time + signer.fudge })

-- the flags of a message (RFC 1035 4.1.1)
abbrev pub message_flags : List ℕ → ℕ
message_flags octets = from_be_bytes w16 (slice_range octets 2 4)

-- Octets that are signed under this original ID by this record answer the request of a chain: the ID is their own, QR is
-- set (RFC 1035 4.1.1), and the request was sent within the window (RFC 8945 5.2.3).
pub record IsAnswer (chain : TsigChain) (oid : ℕ) (octets : List ℕ) (rr : TsigRecord) : Type 0 where
  pub id : message_id octets ≡ oid
  pub response : 0x8000 ≤ message_flags octets
  pub from_start : rr.tsig.time - rr.tsig.fudge ≤ chain.request_time
  pub before_end : chain.request_time < rr.tsig.time + rr.tsig.fudge

-- a chain before the first answer, whose MAC is that of the request
pub record IsFresh (chain : TsigChain) : Type 0 where
  pub first : chain.first ≡ true
  pub time : chain.time ≡ 0

-- A reply is by the signer of a chain and covers the chain's MAC: one with an error whose number fits its field, or with
-- none, or one that tells the server's time. A reply to a wrong MAC or under an unknown key has no MAC (RFC 8945 5.3.2).
abbrev pub IsReplyFor : TsigChain → Reply → Type 0
IsReplyFor chain (Signed signer request_mac error) =
    (signer ≡ chain.signer) × (request_mac ≡ chain.mac) × (optional_error_number error < 2 ^ 16)
IsReplyFor chain (WithServerTime signer request_mac server_time) = (signer ≡ chain.signer) × (request_mac ≡ chain.mac)
IsReplyFor chain _ = ⊥

-- A signed response passes a fresh verifier (RFC 8945 5.3, 5.4).
abbrev pub ResponsePasses : Type 0
ResponsePasses = (chain : TsigChain) (response : Response) (octets : List ℕ) (rr : TsigRecord) (signed : List ℕ)
    → IsSigner chain.signer → IsFresh chain → IsReplyFor chain response.reply
    → response_record response octets ≡ Ok rr
    → IsJoined octets rr signed → IsAnswer chain response.request_id octets rr
    → verdict chain signed ≡ Ok (advanced chain rr.tsig.mac rr.tsig.time)

-- A later response passes next, where it is not signed before the last one (RFC 8945 5.3.1).
abbrev pub LaterPasses : Type 0
LaterPasses = (chain : TsigChain) (id time : ℕ) (octets : List ℕ) (rr : TsigRecord) (signed : List ℕ)
    → IsSigner chain.signer → chain.first ≡ false → chain.time ≤ time
    → signed_later chain.signer chain.mac octets id time ≡ Ok rr
    → IsJoined octets rr signed → IsAnswer chain id octets rr
    → verdict chain signed ≡ Ok (advanced chain rr.tsig.mac rr.tsig.time)
