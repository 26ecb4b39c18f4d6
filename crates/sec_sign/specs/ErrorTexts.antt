-- What an error prints: the name of its variant, and what that holds.
use Rattle.std.specs.Prelude.{ℕ, List, ◌++◌, codes}
use Rattle.std.specs.Fmt.{decimal}
use Rattle.dns_wire.specs.ErrorTexts.{emit_error_text}
use Rattle.sec_codes.specs.ErrorTexts.{key_error_text}
use Rattle.sec_sigdata.specs.ErrorTexts.{dns_sec_error_text}
use Rattle.sec_sign.specs.declared.tbs_error.TbsError.{TbsError}
use Rattle.sec_sign.specs.declared.tbs_error.TbsError.TheVariants as tbs_errors
use Rattle.sec_sign.specs.declared.verify_error.VerifyRrsigError.{VerifyRrsigError}
use Rattle.sec_sign.specs.declared.verify_error.VerifyRrsigError.TheVariants as verify_rrsig_errors
use Rattle.sec_sign.specs.declared.sign_error.SignError.{SignError}
use Rattle.sec_sign.specs.declared.sign_error.SignError.TheVariants as sign_errors

abbrev pub tbs_error_text : TbsError → List ℕ
tbs_error_text (tbs_errors.LabelsExceedOwner labels owner) = codes "LabelsExceedOwner " ++ decimal labels ++ codes " " ++ decimal owner
tbs_error_text (tbs_errors.Emit cause) = codes "Emit " ++ emit_error_text cause
tbs_error_text tbs_errors.OutOfMemory = codes "OutOfMemory"

abbrev pub verify_rrsig_error_text : VerifyRrsigError → List ℕ
verify_rrsig_error_text (verify_rrsig_errors.Tbs cause) = codes "Tbs " ++ tbs_error_text cause
verify_rrsig_error_text (verify_rrsig_errors.Key cause) = codes "Key " ++ key_error_text cause
verify_rrsig_error_text verify_rrsig_errors.OutOfMemory = codes "OutOfMemory"

abbrev pub sign_error_text : SignError → List ℕ
sign_error_text sign_errors.TimeOutOfRange = codes "TimeOutOfRange"
sign_error_text sign_errors.KeyTooLong = codes "KeyTooLong"
sign_error_text (sign_errors.Emit cause) = codes "Emit " ++ emit_error_text cause
sign_error_text (sign_errors.Signing cause) = codes "Signing " ++ dns_sec_error_text cause
sign_error_text sign_errors.OutOfMemory = codes "OutOfMemory"
