-- What an error prints: the name of its variant, and what that holds.
use Rattle.std.specs.Prelude.{ℕ, List, ◌++◌, codes}
use Rattle.dns_wire.specs.ErrorTexts.{decode_error_text}
use Rattle.dns_message.specs.declared.response.ResponseError.{ResponseError}
use Rattle.dns_message.specs.declared.response.ResponseError.TheVariants as response_errors

abbrev pub response_error_text : ResponseError → List ℕ
response_error_text (response_errors.Decode fault) = codes "Decode " ++ decode_error_text fault
response_error_text response_errors.NotAResponse = codes "NotAResponse"
response_error_text response_errors.OutOfMemory = codes "OutOfMemory"
