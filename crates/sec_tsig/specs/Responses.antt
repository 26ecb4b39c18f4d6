-- How an answer to a signed request is signed (RFC 8945 5.2, 5.3).
use Rattle.std.specs.Prelude.{Bool, ℕ, ◌^◌, List, [], true, ◌||◌, nat_eq, nat_lt, if◌then◌else◌}
use Rattle.std.specs.Prelude.{Option, Some, Result, Ok, Err}
use Rattle.dns_wire.specs.Octets.{six_octets}
use Rattle.sec_sigdata.specs.declared.tsig_algorithm.TsigAlgorithm.TheVariants.{HmacSha256}
use Rattle.sec_sigdata.specs.declared.tsig_error.TsigError.{TsigError}
use Rattle.sec_sigdata.specs.declared.tsig_error.TsigError.TheVariants.{BadSig, BadKey, BadTime}
use Rattle.sec_sigdata.specs.TsigErrors.{error_number, optional_error_number}
use Rattle.sec_sigdata.specs.TsigRecords.{TsigFields}
use Rattle.sec_tsig.specs.declared.sign_error.TsigSignError.{TsigSignError}
use Rattle.sec_tsig.specs.declared.sign_error.TsigSignError.TheVariants as causes
use Rattle.sec_tsig.specs.Tsig.{TsigRecord, made_record}
use Rattle.sec_tsig.specs.Signers.{Signer, tsig_by, signed_after}

-- Which answer is signed: one with this error or none to a request of this MAC; one that tells the server's time, since
-- the request's time was not in its window; one to a request whose MAC was wrong; one to a request under an unknown
-- key. The last two are not signed (RFC 8945 5.2.1, 5.2.2, 5.3.2).
pub data Reply : Type 0 where
  Signed : Signer → List ℕ → Option TsigError → Reply
  WithServerTime : Signer → List ℕ → ℕ → Reply
  WrongMac : Signer → Reply
  WrongKey : List (List ℕ) → Reply

-- the ID of the request, the time signed, and the answer
pub record Response : Type 0 where
  pub request_id : ℕ
  pub time : ℕ
  pub reply : Reply

-- the fudge of an answer under an unknown key, in seconds (RFC 8945 10)
abbrev pub default_fudge : ℕ
default_fudge = 300

-- whether an answer with this error is not signed: BADSIG and BADKEY (RFC 8945 5.3.2)
abbrev pub is_unsigned : Option TsigError → Bool
is_unsigned error =
    nat_eq (optional_error_number error) (error_number BadSig) || nat_eq (optional_error_number error) (error_number BadKey)

-- whether an answer with this error tells the server's time: BADTIME (RFC 8945 5.2.3)
abbrev pub tells_time : Option TsigError → Bool
tells_time error = nat_eq (optional_error_number error) (error_number BadTime)

-- the record of an answer that covers the MAC of its request, or the first cause why there is none
abbrev pub signed_reply : Signer → List ℕ → List ℕ → TsigFields → Result TsigRecord TsigSignError
signed_reply signer request_mac = signed_after signer request_mac true

-- the record of an answer that is not signed, or the cause why there is none
abbrev pub unsigned_reply : List (List ℕ) → TsigFields → Result TsigRecord TsigSignError
unsigned_reply owner tsig =
    if nat_lt tsig.time (2 ^ 48) then Ok (made_record owner tsig) else Err causes.TimeTooLarge

-- the data of the TSIG of an answer under a key that is not known
abbrev pub unknown_key_tsig : ℕ → ℕ → TsigFields
unknown_key_tsig time id = record {
  algorithm = HmacSha256;
  time = time;
  fudge = default_fudge;
  mac = [];
  oid = id;
  error = Some BadKey;
  other = [];
}

-- the record of an answer, or the first cause why there is none
abbrev pub reply_record : ℕ → ℕ → Reply → List ℕ → Result TsigRecord TsigSignError
reply_record id time (Signed signer request_mac error) response =
    if is_unsigned error then Err (causes.UnsignedError (optional_error_number error))
    else if tells_time error then Err causes.NeedsServerTime
    else signed_reply signer request_mac response (tsig_by signer time id error [])
reply_record id time (WithServerTime signer request_mac server_time) response =
    if nat_lt server_time (2 ^ 48) then
    signed_reply signer request_mac response (tsig_by signer time id (Some BadTime) (six_octets server_time))
    else Err causes.TimeTooLarge
reply_record id time (WrongMac signer) response = unsigned_reply signer.name (tsig_by signer time id (Some BadSig) [])
reply_record id time (WrongKey owner) response = unsigned_reply owner (unknown_key_tsig time id)

abbrev pub response_record : Response → List ℕ → Result TsigRecord TsigSignError
response_record response = reply_record response.request_id response.time response.reply
