-- Whether a signature of a record set is right (RFC 4035 5.3.2, 5.3.3).
use Rattle.std.specs.Prelude.{Bool, ℕ, List, Result, Ok, Err}
use Rattle.dns_wire.specs.Reading.{◌>>=◌}
use Rattle.sec_codes.specs.declared.algorithm.Algorithm.{Algorithm}
use Rattle.sec_codes.specs.declared.key_error.KeyError.{KeyError}
use Rattle.sec_codes.specs.declared.key_error.KeyError.TheVariants as keys
use Rattle.sec_codes.specs.KeyForms.{Key}
use Rattle.sec_codes.specs.Schemes.{verified}
use Rattle.sec_sigdata.specs.Signatures.{SigData}
use Rattle.dns_rdata.specs.declared.rdata.RData.{RData}
use Rattle.dns_message.specs.declared.record.Record.{Record}
use Rattle.sec_sign.specs.declared.tbs_error.TbsError.{TbsError}
use Rattle.sec_sign.specs.declared.tbs_error.TbsError.TheVariants as sets
use Rattle.sec_sign.specs.declared.verify_error.VerifyRrsigError.{VerifyRrsigError}
use Rattle.sec_sign.specs.declared.verify_error.VerifyRrsigError.TheVariants.{Tbs, Key as KeyCause, OutOfMemory}
use Rattle.sec_sign.specs.Signed.{signed}

-- what a scheme accepts: an algorithm, the octets of a key, a message, a signature
abbrev pub Relation : Type 0
Relation = Algorithm → List ℕ → List ℕ → List ℕ → Bool

-- why a set has no octets, as a cause of the check; out of memory stays such
abbrev pub set_cause : TbsError → VerifyRrsigError
set_cause sets.OutOfMemory = OutOfMemory
set_cause cause = Tbs cause

-- why a key or its signature is refused, as a cause of the check; out of memory stays such
abbrev pub key_cause : KeyError → VerifyRrsigError
key_cause keys.OutOfMemory = OutOfMemory
key_cause cause = KeyCause cause

abbrev pub of_set : {A : Type 0} → Result A TbsError → Result A VerifyRrsigError
of_set (Ok x) = Ok x
of_set (Err cause) = Err (set_cause cause)

abbrev pub of_key : {A : Type 0} → Result A KeyError → Result A VerifyRrsigError
of_key (Ok x) = Ok x
of_key (Err cause) = Err (key_cause cause)

-- Whether a signature of the set with a name and a class is right: why there is no string that it could be of; and
-- else why the key lacks its form, or that the scheme doesn't accept the signature of the string.
abbrev pub rrsig_verified : Relation → Key → SigData → List (List ℕ) → ℕ → List (Record RData)
    → Result (Unit {0}) VerifyRrsigError
rrsig_verified accepts key sig name dns_class records = do
  octets ← of_set (signed sig.input name dns_class records)
  of_key (verified key.algorithm key.octets (accepts key.algorithm key.octets octets sig.sig))
