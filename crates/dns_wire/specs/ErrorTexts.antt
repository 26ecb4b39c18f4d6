-- What an error prints: the name of its variant, and what that holds.
use Rattle.std.specs.Prelude.{ℕ, List, ◌++◌, codes}
use Rattle.std.specs.Fmt.{decimal}
use Rattle.dns_wire.specs.declared.error.NameError.{NameError}
use Rattle.dns_wire.specs.declared.error.NameError.TheVariants as names
use Rattle.dns_wire.specs.declared.error.DecodeError.{DecodeError}
use Rattle.dns_wire.specs.declared.error.DecodeError.TheVariants as faults
use Rattle.dns_wire.specs.declared.error.EmitError.{EmitError}
use Rattle.dns_wire.specs.declared.error.EmitError.TheVariants as causes

abbrev pub name_error_text : NameError → List ℕ
name_error_text names.EmptyLabel = codes "EmptyLabel"
name_error_text names.LabelTooLong = codes "LabelTooLong"
name_error_text names.NameTooLong = codes "NameTooLong"
name_error_text names.BadEscape = codes "BadEscape"
name_error_text names.BadCharacter = codes "BadCharacter"

abbrev pub decode_error_text : DecodeError → List ℕ
decode_error_text faults.InsufficientBytes = codes "InsufficientBytes"
decode_error_text faults.NameMalformed = codes "NameMalformed"
decode_error_text faults.BitmapMalformed = codes "BitmapMalformed"
decode_error_text (faults.DnsKeyProtocolNot3 number) = codes "DnsKeyProtocolNot3 " ++ decimal number
decode_error_text (faults.KeyFlagsReserved number) = codes "KeyFlagsReserved " ++ decimal number
decode_error_text (faults.ExtendedKeyFlagsUnsupported number) = codes "ExtendedKeyFlagsUnsupported " ++ decimal number
decode_error_text (faults.UnrecognizedNsec3Flags number) = codes "UnrecognizedNsec3Flags " ++ decimal number
decode_error_text (faults.UnknownNsec3HashAlgorithm number) = codes "UnknownNsec3HashAlgorithm " ++ decimal number
decode_error_text (faults.UnknownDigestAlgorithm number) = codes "UnknownDigestAlgorithm " ++ decimal number
decode_error_text (faults.IncorrectRDataLengthRead read len) = codes "IncorrectRDataLengthRead " ++ decimal read ++ codes " " ++ decimal len
decode_error_text faults.OutOfMemory = codes "OutOfMemory"
decode_error_text faults.MessageTooLong = codes "MessageTooLong"
decode_error_text faults.TsigNotLast = codes "TsigNotLast"

abbrev pub emit_error_text : EmitError → List ℕ
emit_error_text causes.SaltTooLong = codes "SaltTooLong"
emit_error_text causes.HashTooLong = codes "HashTooLong"
emit_error_text causes.MacTooLong = codes "MacTooLong"
emit_error_text causes.OtherTooLong = codes "OtherTooLong"
emit_error_text causes.TimeTooLarge = codes "TimeTooLarge"
emit_error_text causes.DataTooLong = codes "DataTooLong"
emit_error_text causes.MessageTooLong = codes "MessageTooLong"
emit_error_text causes.CountTooLarge = codes "CountTooLarge"
emit_error_text causes.OutOfMemory = codes "OutOfMemory"
emit_error_text causes.StringTooLong = codes "StringTooLong"
