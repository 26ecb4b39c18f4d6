-- What an error prints: the name of its variant.
use Rattle.std.specs.Prelude.{ℕ, List, codes}
use Rattle.dns_io.specs.declared.transfer.ReadError.{ReadError}
use Rattle.dns_io.specs.declared.transfer.ReadError.TheVariants as errors

abbrev pub read_error_text : ReadError → List ℕ
read_error_text errors.Fault = codes "Fault"
read_error_text errors.TooLong = codes "TooLong"
read_error_text errors.OutOfMemory = codes "OutOfMemory"
