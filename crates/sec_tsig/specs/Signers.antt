-- Who signs, and the TSIG records that signing gives (RFC 8945 4.2, 5.1, 5.3).
use Rattle.std.specs.Prelude.{ℕ, ◌^◌, List, [], length, slice_range, Bool, true, false, Option, Some, None, Result, Ok, Err}
use Rattle.std.specs.Prelude.{nat_lt, if◌then◌else◌}
use Rattle.std.specs.Int.{w16, from_be_bytes}
use Rattle.sec_digest.specs.declared.hmac.HmacHash.{HmacHash}
use Rattle.sec_digest.specs.Hmac.{hmac}
use Rattle.sec_sigdata.specs.declared.error.DnsSecError.{DnsSecError}
use Rattle.sec_sigdata.specs.declared.error.DnsSecError.TheVariants.{TsigUnsupportedMacAlgorithm}
use Rattle.sec_sigdata.specs.declared.tsig_algorithm.TsigAlgorithm.{TsigAlgorithm}
use Rattle.sec_sigdata.specs.declared.tsig_error.TsigError.{TsigError}
use Rattle.sec_sigdata.specs.TsigAlgorithms as names
use Rattle.sec_sigdata.specs.TsigAlgorithms.{algorithm_with, hash_of}
use Rattle.sec_sigdata.specs.TsigRecords.{TsigFields, fields_data}
use Rattle.sec_tsig.specs.declared.sign_error.TsigSignError.{TsigSignError}
use Rattle.sec_tsig.specs.declared.sign_error.TsigSignError.TheVariants.{TimeTooLarge, MacTooLong}
use Rattle.sec_tsig.specs.Tsig.{mac_input, TsigRecord, made_record}

-- the name of an algorithm (RFC 8945 6)
abbrev pub algorithm_name : HmacHash → List (List ℕ)
algorithm_name hash = names.algorithm_name (algorithm_with hash)

-- who signs: a key with its algorithm and its name, and the fudge of what it signs
pub record Signer : Type 0 where
  pub key : List ℕ
  pub algorithm : HmacHash
  pub name : List (List ℕ)
  pub fudge : ℕ

-- the signer of an algorithm with this hash function
abbrev pub signer_with : TsigAlgorithm → Option HmacHash → List ℕ → List (List ℕ) → ℕ → Result Signer DnsSecError
signer_with algorithm None key name fudge = Err (TsigUnsupportedMacAlgorithm algorithm)
signer_with algorithm (Some hash) key name fudge =
    Ok (record { key = key; algorithm = hash; name = name; fudge = fudge })

-- the signer of an algorithm, where that is supported
abbrev pub signer_of : List ℕ → TsigAlgorithm → List (List ℕ) → ℕ → Result Signer DnsSecError
signer_of key algorithm = signer_with algorithm (hash_of algorithm) key

-- ---- what is signed

-- the data of a TSIG of a signer, without a MAC
abbrev pub tsig_by : Signer → ℕ → ℕ → Option TsigError → List ℕ → TsigFields
tsig_by signer time oid error other = record {
  algorithm = algorithm_with signer.algorithm;
  time = time;
  fudge = signer.fudge;
  mac = [];
  oid = oid;
  error = error;
  other = other;
}

-- the MAC of octets that are sent with these data
abbrev pub signing_mac : Signer → Option (List ℕ) → Bool → List ℕ → TsigFields → List ℕ
signing_mac signer previous first octets tsig =
    hmac signer.algorithm signer.key (mac_input previous first octets signer.name (fields_data tsig))

-- the record that signs octets: these data with the MAC
abbrev pub signing_record : Signer → Option (List ℕ) → Bool → List ℕ → TsigFields → TsigRecord
signing_record signer previous first octets tsig =
    made_record signer.name (record tsig { mac = signing_mac signer previous first octets tsig })

-- the ID of a message (RFC 1035 4.1.1)
abbrev pub message_id : List ℕ → ℕ
message_id octets = from_be_bytes w16 (slice_range octets 0 2)

-- the data of the TSIG of a request
abbrev pub request_tsig : Signer → ℕ → List ℕ → TsigFields
request_tsig signer time octets = tsig_by signer time (message_id octets) None []

-- the record that signs a request, which covers no MAC (RFC 8945 5.1)
abbrev pub request_record : Signer → ℕ → List ℕ → TsigRecord
request_record signer time octets = signing_record signer None true octets (request_tsig signer time octets)

-- The record that signs octets after the message of this MAC, or the first cause why there is none: TimeTooLarge for a
-- time of 2^48 or more, MacTooLong for a MAC that its length of two octets can't count.
abbrev pub signed_after : Signer → List ℕ → Bool → List ℕ → TsigFields → Result TsigRecord TsigSignError
signed_after signer previous first octets tsig =
    if nat_lt tsig.time (2 ^ 48) then
    (if nat_lt (length previous) (2 ^ 16) then Ok (signing_record signer (Some previous) first octets tsig)
    else Err MacTooLong)
    else Err TimeTooLarge

-- the record that signs a later answer after the one of this MAC, and covers the timers alone (RFC 8945 5.3.1)
abbrev pub signed_later : Signer → List ℕ → List ℕ → ℕ → ℕ → Result TsigRecord TsigSignError
signed_later signer previous response id time =
    signed_after signer previous false response (tsig_by signer time id None [])
