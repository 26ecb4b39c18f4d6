-- Requests, and how they are signed (RFC 8945 5.1).
use Rattle.std.specs.Prelude.{◌≡◌, ℕ, ◌+◌, ◌^◌, List, length, Bool, false, ◌&&◌, ◌==◌, nat_lt, Option, None}
use Rattle.std.specs.Prelude.{Result, Ok, Err, is_none, option_map, if◌then◌else◌}
use Rattle.std.specs.Result.{result_ok}
use Rattle.dns_wire.specs.declared.error.DecodeError.{DecodeError}
use Rattle.dns_wire.specs.declared.error.EmitError.{EmitError}
use Rattle.dns_wire.specs.declared.error.EmitError.TheVariants.{CountTooLarge}
use Rattle.dns_wire.specs.Rooms.{filled}
use Rattle.dns_grammar.specs.Messages.{Message, message_at, signature_of}
use Rattle.dns_rdata.specs.RDataTable.{rdata_table}
use Rattle.sec_tsig.specs.declared.request_error.RequestError.{RequestError}
use Rattle.sec_tsig.specs.declared.request_error.RequestError.TheVariants as causes
use Rattle.sec_tsig.specs.Tsig.{with_record}
use Rattle.dns_names.specs.Names.{wire}
use Rattle.sec_digest.specs.declared.mac.Mac.{Mac}
use Rattle.sec_digest.specs.Hmac.{mac_len}
use Rattle.sec_digest.specs.Mac.{mac_octets}
use Rattle.sec_tsig.specs.Signers.{algorithm_name, Signer, request_record}
use Rattle.sec_tsig.specs.Verdict.{TsigChain, first_chain}

-- whether octets that read as this message, which ends there, are a request: all of them belong to it, and no
-- transaction signature is its last additional record
abbrev pub reads_request : List ℕ → Result (Message × ℕ) DecodeError → Bool
reads_request octets (Err _) = false
reads_request octets (Ok x) = (x.1 == length octets) && is_none (signature_of x.0)

-- whether octets are a request
abbrev pub is_request : List ℕ → Bool
is_request octets = reads_request octets (message_at rdata_table octets)

-- The signed request of these octets, and the chain before the first answer to it. There is none where the octets are
-- no request, where they have 65,535 additional records, and where the signed request has more than 65,535 octets.
abbrev pub signed_request : Signer → ℕ → List ℕ → Option (List ℕ × TsigChain)
signed_request signer time octets =
    if is_request octets then
    option_map (λ signed. (signed, first_chain signer time octets))
    (result_ok (with_record octets (request_record signer time octets)))
    else None

-- ---- why there is none

-- Why no record is put after a request. The record itself can always be written, so that it is the count or the length.
abbrev pub request_cause : EmitError → RequestError
request_cause CountTooLarge = causes.CountTooLarge
request_cause _ = causes.MessageTooLong

abbrev pub or_request_cause : Result (List ℕ) EmitError → Result (List ℕ) RequestError
or_request_cause (Ok octets) = Ok octets
or_request_cause (Err cause) = Err (request_cause cause)

-- The signed request of these octets, or the first cause why there is none: TimeTooLarge for a time of 2^48 seconds or
-- more, NotARequest where they are no request, CountTooLarge for 65,535 additional records, and MessageTooLong where the
-- signed request has more than 65,535 octets.
abbrev pub signed_or_cause : Signer → ℕ → List ℕ → Result (List ℕ) RequestError
signed_or_cause signer time octets =
    if nat_lt time (2 ^ 48) then
    (if is_request octets then or_request_cause (with_record octets (request_record signer time octets))
    else Err causes.NotARequest)
    else Err causes.TimeTooLarge

-- Ok is the length of what the definition gives, which was put to the buffer where that is long enough; the MAC is that
-- of the chain before the first answer. A refusal is the definition's, and left the buffer as it was.
abbrev pub SignsTo : Result (ℕ × Mac) RequestError → List ℕ → List ℕ → TsigChain → Result (List ℕ) RequestError → Type 0
SignsTo (Ok signed) old new chain given =
    (octets : List ℕ) × (given ≡ Ok octets) × (signed.0 ≡ length octets) × (new ≡ filled old octets)
    × (mac_octets signed.1 ≡ chain.mac)
SignsTo (Err cause) old new chain given = (given ≡ Err cause) × (new ≡ old)

-- how many octets the TSIG record of a request has: its owner, ten octets, the algorithm's name, sixteen octets, the MAC
abbrev pub request_record_len : Signer → ℕ
request_record_len signer =
    length (wire signer.name) + 10 + length (wire (algorithm_name signer.algorithm)) + 16 + mac_len signer.algorithm
