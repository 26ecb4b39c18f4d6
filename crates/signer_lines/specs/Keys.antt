-- The line that says who signs.
use Rattle.std.specs.Prelude.{ℕ, ◌^◌, List, codes, Option, Some, None, if◌then◌else◌, Result, Ok}
use Rattle.std.specs.Option.{ok_or}
use Rattle.std.specs.Result.{result_ok}
use Rattle.std.specs.Str.{bytes_eq}
use Rattle.dns_wire.specs.Reading.{◌>>=◌}
use Rattle.dns_names.specs.NameText.{name_from_text}
use Rattle.dns_text.specs.Words.{four_words, number_below, decode_hex}
use Rattle.sec_digest.specs.declared.hmac.HmacHash.{HmacHash}
use Rattle.sec_digest.specs.declared.hmac.HmacHash.TheVariants.{Sha256, Sha384, Sha512}
use Rattle.sec_tsig.specs.Signers.{Signer}
use Rattle.dns_script.specs.declared.error.LineError.{LineError}
use Rattle.dns_script.specs.declared.error.LineError.TheVariants.{Fault}
use Rattle.dns_script.specs.declared.reason.Reason.TheVariants as reasons

-- the hash of an algorithm's name (RFC 8945 6)
abbrev pub hash_named : List ℕ → Option HmacHash
hash_named word =
    if bytes_eq word (codes "hmac-sha256") then Some Sha256
    else if bytes_eq word (codes "hmac-sha384") then Some Sha384
    else if bytes_eq word (codes "hmac-sha512") then Some Sha512
    else None

-- `ALGORITHM NAME FUDGE HEX`: who signs
abbrev pub key_words : List (List ℕ) → Result Signer LineError
key_words others = do
  w ← ok_or (four_words others) (Fault reasons.Key)
  algorithm ← ok_or (hash_named w.0) (Fault reasons.Key)
  name ← ok_or (result_ok (name_from_text w.1)) (Fault reasons.Key)
  fudge ← ok_or (number_below (2 ^ 16) w.2) (Fault reasons.Key)
  key ← ok_or (decode_hex w.3) (Fault reasons.Key)
  Ok (record { key = key; algorithm = algorithm; name = name; fudge = fudge })
