-- Why octets are no response, as why they are no valid answer.
use Rattle.dns_message.specs.declared.response.ResponseError.{ResponseError}
use Rattle.dns_message.specs.declared.response.ResponseError.TheVariants as response_errors
use Rattle.sec_tsig.specs.declared.verify_error.VerifyError.{VerifyError}
use Rattle.sec_tsig.specs.declared.verify_error.VerifyError.TheVariants as causes

abbrev pub response_cause : ResponseError → VerifyError
response_cause (response_errors.Decode fault) = causes.Decode
response_cause response_errors.NotAResponse = causes.NotAResponse
response_cause response_errors.OutOfMemory = causes.OutOfMemory
