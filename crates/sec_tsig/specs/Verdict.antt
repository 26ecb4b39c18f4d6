-- A chain of signed answers to one request, and the verdict on the next string of octets (RFC 8945 5.2 to 5.4).
use Rattle.std.specs.Prelude.{ℕ, ◌+◌, ◌-◌, ◌^◌, List, length, Bool, true, false, ◌&&◌, not, Option, Some, None}
use Rattle.std.specs.Prelude.{Result, Ok, Err, nat_lt, nat_le, if◌then◌else◌}
use Rattle.std.specs.Str.{bytes_eq}
use Rattle.dns_wire.specs.declared.error.DecodeError.{DecodeError}
use Rattle.dns_wire.specs.Reading.{◌>>=◌}
use Rattle.dns_names.specs.Names.{wire, same}
use Rattle.dns_grammar.specs.Messages.{Header, Message, Signature, signature_of, message_at}
use Rattle.sec_digest.specs.Hmac.{hmac, mac_len}
use Rattle.dns_rdata.specs.RDataTable.{rdata_table}
use Rattle.dns_message.specs.Parts.{has_qr}
use Rattle.sec_tsig.specs.declared.sign_error.TsigSignError.{TsigSignError}
use Rattle.sec_tsig.specs.declared.sign_error.TsigSignError.TheVariants.{TimeTooLarge}
use Rattle.sec_tsig.specs.declared.verify_error.VerifyError.{VerifyError}
use Rattle.sec_tsig.specs.declared.verify_error.VerifyError.TheVariants as causes
use Rattle.sec_tsig.specs.Tsig.{received_input, TsigRecord}
use Rattle.sec_tsig.specs.Signers.{algorithm_name, Signer, signing_mac, request_tsig, request_record}

-- What stands of a request and the answers accepted so far: who signs, the time of the request, the last MAC, the last
-- time signed, and whether the next answer is the first.
pub record TsigChain : Type 0 where
  pub signer : Signer
  pub request_time : ℕ
  pub mac : List ℕ
  pub time : ℕ
  pub first : Bool

-- the chain before the first answer to a request
abbrev pub first_chain : Signer → ℕ → List ℕ → TsigChain
first_chain signer time octets = record {
  signer = signer;
  request_time = time;
  mac = signing_mac signer None true octets (request_tsig signer time octets);
  time = 0;
  first = true;
}

-- the record that signs a request, and the chain before the first answer to it
abbrev pub signed_octets : Signer → ℕ → List ℕ → Result (TsigRecord × TsigChain) TsigSignError
signed_octets signer time octets =
    if nat_lt time (2 ^ 48) then Ok (request_record signer time octets, first_chain signer time octets)
    else Err TimeTooLarge

-- ---- the MAC

-- whether the TSIG has the name of the signer's key, and the name of its algorithm as that is spelled (RFC 8945 5.2.1)
abbrev pub has_signers_key : Signer → Signature → Bool
has_signers_key signer signature =
    same signer.name signature.name && bytes_eq (wire (algorithm_name signer.algorithm)) (wire signature.tsig.algorithm)

-- the MAC that a message must have that was received with this header and this TSIG (RFC 8945 5.2.2)
abbrev pub expected_mac : Signer → Option (List ℕ) → Bool → List ℕ → Header → Signature → List ℕ
expected_mac signer previous first m header signature =
    hmac signer.algorithm signer.key (received_input previous first m header signature)

-- the MAC of a message with this TSIG, or the first cause why it is not right
abbrev pub checked_mac : Signer → Option (List ℕ) → Bool → List ℕ → Header → Signature → Result (List ℕ) VerifyError
checked_mac signer previous first m header signature =
    if not (has_signers_key signer signature) then Err causes.TsigWrongKey
    else if nat_lt (length signature.tsig.mac) (mac_len signer.algorithm) then Err causes.TruncatedMac
    else if not (bytes_eq signature.tsig.mac (expected_mac signer previous first m header signature)) then
    Err causes.HmacInvalid
    else Ok signature.tsig.mac

-- ---- the verdict

-- the first and the last second but one in which the request was to be sent: from the fudge before the time signed on,
-- or from 0, up to the fudge after it and without that second (RFC 8945 5.2.3)
abbrev pub window_start : Signature → ℕ
window_start signature = signature.tsig.time - signature.tsig.fudge

abbrev pub window_end : Signature → ℕ
window_end signature = signature.tsig.time + signature.tsig.fudge

-- whether the message was not signed before the last one, and the request was sent within its window (RFC 8945 5.2.3)
abbrev pub is_in_time : TsigChain → Signature → Bool
is_in_time chain signature =
    nat_le chain.time signature.tsig.time
    && nat_le (window_start signature) chain.request_time
    && nat_lt chain.request_time (window_end signature)

-- whether the bit QR is set (RFC 1035 4.1.1)
abbrev pub is_response : Header → Bool
is_response header = has_qr header.flags

-- the chain after an accepted answer of this MAC and this time
abbrev pub advanced : TsigChain → List ℕ → ℕ → TsigChain
advanced chain mac time = record chain { mac = mac; time = time; first = false }

-- the verdict on a message with this TSIG
unfoldable pub signature_verdict : TsigChain → List ℕ → Header → Signature → Result TsigChain VerifyError
signature_verdict chain m header signature =
    checked_mac chain.signer (Some chain.mac) chain.first m header signature >>= λ mac.
    if not (is_in_time chain signature) then Err causes.Outdated
    else if not (is_response header) then Err causes.NotAResponse
    else Ok (advanced chain mac signature.tsig.time)

-- what octets come to that read as a message: Decode where they don't, MissingTsig where its last additional is no
-- TSIG, and else what is found of its header and its TSIG
abbrev pub with_signature : {X : Type 0} → (Header → Signature → Result X VerifyError) → Header → Option Signature
    → Result X VerifyError
with_signature found header None = Err causes.MissingTsig
with_signature found header (Some signature) = found header signature

abbrev pub with_tsig : {X : Type 0} → (Header → Signature → Result X VerifyError) → Result (Message × ℕ) DecodeError
    → Result X VerifyError
with_tsig found (Err _) = Err causes.Decode
with_tsig found (Ok x) = with_signature found x.0.header (signature_of x.0)

-- the header and the TSIG of a message that ends in one
pub record SignedParts : Type 0 where
  pub header : Header
  pub signature : Signature

-- these parts of what is read, or Decode or MissingTsig
abbrev pub signed_parts : Result (Message × ℕ) DecodeError → Result SignedParts VerifyError
signed_parts = with_tsig (λ header signature. Ok (record { header = header; signature = signature }))

-- The verdict on octets: the first cause that holds against them, or the chain after them, where none does.
abbrev pub verdict : TsigChain → List ℕ → Result TsigChain VerifyError
verdict chain m = with_tsig (signature_verdict chain m) (message_at rdata_table m)
