-- What an error prints: the name of its variant, and what that holds.
use Rattle.std.specs.Prelude.{ℕ, List, ◌++◌, codes}
use Rattle.std.specs.Fmt.{decimal}
use Rattle.sec_keydata.specs.declared.token_error.TokenField.{TokenField}
use Rattle.sec_keydata.specs.declared.token_error.TokenField.TheVariants as token_fields
use Rattle.sec_keydata.specs.declared.token_error.TokenError.{TokenError}
use Rattle.sec_keydata.specs.declared.token_error.TokenError.TheVariants as token_errors
use Rattle.sec_keydata.specs.declared.key_data_error.KeyDataError.{KeyDataError}
use Rattle.sec_keydata.specs.declared.key_data_error.KeyDataError.TheVariants as key_data_errors

abbrev pub token_field_text : TokenField → List ℕ
token_field_text token_fields.Flags = codes "Flags"
token_field_text token_fields.Protocol = codes "Protocol"
token_field_text token_fields.Algorithm = codes "Algorithm"
token_field_text token_fields.PublicKey = codes "PublicKey"
token_field_text token_fields.KeyTag = codes "KeyTag"
token_field_text token_fields.DigestType = codes "DigestType"
token_field_text token_fields.Digest = codes "Digest"

abbrev pub token_error_text : TokenError → List ℕ
token_error_text (token_errors.Missing field) = codes "Missing " ++ token_field_text field
token_error_text token_errors.BadNumber = codes "BadNumber"
token_error_text token_errors.ProtocolNot3 = codes "ProtocolNot3"
token_error_text token_errors.BadBase64 = codes "BadBase64"
token_error_text token_errors.BadHex = codes "BadHex"
token_error_text token_errors.OutOfMemory = codes "OutOfMemory"

abbrev pub key_data_error_text : KeyDataError → List ℕ
key_data_error_text key_data_errors.DataTooLong = codes "DataTooLong"
key_data_error_text (key_data_errors.UnknownDigestAlgorithm number) = codes "UnknownDigestAlgorithm " ++ decimal number
key_data_error_text key_data_errors.OutOfMemory = codes "OutOfMemory"
