-- What an error prints: the name of its variant, and what that holds.
use Rattle.std.specs.Prelude.{ℕ, List, ◌++◌, codes}
use Rattle.std.specs.String.{string_bytes}
use Rattle.dns_wire.specs.ErrorTexts.{decode_error_text}
use Rattle.dns_names.specs.NameText.{name_text_without_dot}
use Rattle.sec_sigdata.specs.TsigAlgorithms.{algorithm_name}
use Rattle.sec_sigdata.specs.declared.error.DnsSecError.{DnsSecError}
use Rattle.sec_sigdata.specs.declared.error.DnsSecError.TheVariants as errors

abbrev pub dns_sec_error_text : DnsSecError → List ℕ
dns_sec_error_text errors.HmacInvalid = codes "HmacInvalid"
dns_sec_error_text (errors.Message text) = codes "Message " ++ text.now
dns_sec_error_text (errors.Msg text) = codes "Msg " ++ string_bytes text
dns_sec_error_text (errors.Proto fault) = codes "Proto " ++ decode_error_text fault
dns_sec_error_text (errors.TsigUnsupportedMacAlgorithm algorithm) = codes "TsigUnsupportedMacAlgorithm " ++ name_text_without_dot (algorithm_name algorithm)
dns_sec_error_text errors.TsigWrongKey = codes "TsigWrongKey"
dns_sec_error_text errors.OutOfMemory = codes "OutOfMemory"
