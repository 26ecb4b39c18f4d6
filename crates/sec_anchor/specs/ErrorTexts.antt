-- What an error prints: the name of its variant, and what that holds.
use Rattle.std.specs.Prelude.{ℕ, List, ◌++◌, codes}
use Rattle.std.specs.Fmt.{decimal}
use Rattle.dns_wire.specs.ErrorTexts.{name_error_text}
use Rattle.sec_codes.specs.ErrorTexts.{key_error_text}
use Rattle.sec_keydata.specs.ErrorTexts.{token_error_text}
use Rattle.dns_types.specs.Codes.{type_text}
use Rattle.dns_lexer.specs.ErrorTexts.{lex_token_text}
use Rattle.sec_anchor.specs.declared.parse_error.ParseError.{ParseError}
use Rattle.sec_anchor.specs.declared.parse_error.ParseError.TheVariants as parse_errors

abbrev pub parse_error_text : ParseError → List ℕ
parse_error_text (parse_errors.UnexpectedToken token) = codes "UnexpectedToken " ++ lex_token_text token
parse_error_text (parse_errors.BadName fault) = codes "BadName " ++ name_error_text fault
parse_error_text parse_errors.BadTtl = codes "BadTtl"
parse_error_text parse_errors.BadClass = codes "BadClass"
parse_error_text parse_errors.UnknownRecordType = codes "UnknownRecordType"
parse_error_text (parse_errors.UnsupportedRecordType rtype) = codes "UnsupportedRecordType " ++ type_text rtype
parse_error_text (parse_errors.Token cause) = codes "Token " ++ token_error_text cause
parse_error_text (parse_errors.UnrecognizedChar character) = codes "UnrecognizedChar " ++ decimal character
parse_error_text (parse_errors.Key cause) = codes "Key " ++ key_error_text cause
parse_error_text parse_errors.OutOfMemory = codes "OutOfMemory"
