-- What an error prints: the name of its variant, and what that holds.
use Rattle.std.specs.Prelude.{ℕ, List, ◌++◌, codes}
use Rattle.std.specs.Fmt.{decimal}
use Rattle.dns_wire.specs.ErrorTexts.{emit_error_text}
use Rattle.sec_tsig.specs.declared.verify_error.VerifyError.{VerifyError}
use Rattle.sec_tsig.specs.declared.verify_error.VerifyError.TheVariants as verify_errors
use Rattle.sec_tsig.specs.declared.sign_error.TsigSignError.{TsigSignError}
use Rattle.sec_tsig.specs.declared.sign_error.TsigSignError.TheVariants as tsig_sign_errors
use Rattle.sec_tsig.specs.declared.request_error.RequestError.{RequestError}
use Rattle.sec_tsig.specs.declared.request_error.RequestError.TheVariants as request_errors

abbrev pub verify_error_text : VerifyError → List ℕ
verify_error_text verify_errors.Decode = codes "Decode"
verify_error_text verify_errors.MissingTsig = codes "MissingTsig"
verify_error_text verify_errors.TsigWrongKey = codes "TsigWrongKey"
verify_error_text verify_errors.TruncatedMac = codes "TruncatedMac"
verify_error_text verify_errors.HmacInvalid = codes "HmacInvalid"
verify_error_text verify_errors.Outdated = codes "Outdated"
verify_error_text verify_errors.NotAResponse = codes "NotAResponse"
verify_error_text verify_errors.OutOfMemory = codes "OutOfMemory"

abbrev pub tsig_sign_error_text : TsigSignError → List ℕ
tsig_sign_error_text (tsig_sign_errors.UnsignedError number) = codes "UnsignedError " ++ decimal number
tsig_sign_error_text (tsig_sign_errors.Message cause) = codes "Message " ++ emit_error_text cause
tsig_sign_error_text tsig_sign_errors.TimeTooLarge = codes "TimeTooLarge"
tsig_sign_error_text tsig_sign_errors.MacTooLong = codes "MacTooLong"
tsig_sign_error_text tsig_sign_errors.OutOfMemory = codes "OutOfMemory"
tsig_sign_error_text tsig_sign_errors.NeedsServerTime = codes "NeedsServerTime"

abbrev pub request_error_text : RequestError → List ℕ
request_error_text request_errors.TimeTooLarge = codes "TimeTooLarge"
request_error_text request_errors.NotARequest = codes "NotARequest"
request_error_text request_errors.CountTooLarge = codes "CountTooLarge"
request_error_text request_errors.MessageTooLong = codes "MessageTooLong"
