-- The line of a request, which is signed.
use Rattle.std.specs.Prelude.{ℕ, ◌^◌, List, Option, Some, None, Result, Ok, Err}
use Rattle.std.specs.Option.{ok_or}
use Rattle.dns_wire.specs.Reading.{◌>>=◌}
use Rattle.dns_text.specs.Words.{two_words, number_below, decode_hex}
use Rattle.sec_tsig.specs.Signers.{Signer}
use Rattle.sec_tsig.specs.Requests.{signed_request}
use Rattle.sec_tsig.specs.Verdict.{TsigChain}
use Rattle.dns_script.specs.declared.error.LineError.{LineError}
use Rattle.dns_script.specs.declared.error.LineError.TheVariants.{Fault}
use Rattle.dns_script.specs.declared.reason.Reason.TheVariants as reasons

-- a request as it is signed, and the chain before the first answer to it (RFC 8945 5.1)
pub record SignedRequest : Type 0 where
  pub octets : List ℕ
  pub chain : TsigChain

-- a request that can't be signed is a fault of its line
abbrev pub or_faulty : Option (List ℕ × TsigChain) → Result SignedRequest LineError
or_faulty (Some signed) = Ok (record { octets = signed.0; chain = signed.1 })
or_faulty None = Err (Fault reasons.Request)

-- `TIME HEX`: a request, signed at this time
abbrev pub request_words : Signer → List (List ℕ) → Result SignedRequest LineError
request_words signer others = do
  w ← ok_or (two_words others) (Fault reasons.Request)
  time ← ok_or (number_below (2 ^ 48) w.0) (Fault reasons.Request)
  octets ← ok_or (decode_hex w.1) (Fault reasons.Request)
  or_faulty (signed_request signer time octets)
