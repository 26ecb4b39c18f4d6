-- What an error prints: the name of its variant, and what that holds.
use Rattle.std.specs.Prelude.{ℕ, List, ◌++◌, codes}
use Rattle.std.specs.Fmt.{decimal}
use Rattle.sec_codes.specs.declared.key_error.KeyKind.{KeyKind}
use Rattle.sec_codes.specs.declared.key_error.KeyKind.TheVariants as key_kinds
use Rattle.sec_codes.specs.declared.key_error.KeyError.{KeyError}
use Rattle.sec_codes.specs.declared.key_error.KeyError.TheVariants as key_errors

abbrev pub key_kind_text : KeyKind → List ℕ
key_kind_text key_kinds.Ec = codes "Ec"
key_kind_text key_kinds.Ed = codes "Ed"
key_kind_text key_kinds.Rsa = codes "Rsa"

abbrev pub key_error_text : KeyError → List ℕ
key_error_text (key_errors.UnsupportedAlgorithm number) = codes "UnsupportedAlgorithm " ++ decimal number
key_error_text (key_errors.WrongLength expected found) = codes "WrongLength " ++ decimal expected ++ codes " " ++ decimal found
key_error_text key_errors.BadRsaKey = codes "BadRsaKey"
key_error_text (key_errors.Crypto kind) = codes "Crypto " ++ key_kind_text kind
key_error_text key_errors.OutOfMemory = codes "OutOfMemory"
