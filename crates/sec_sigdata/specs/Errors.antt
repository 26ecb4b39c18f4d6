-- Why a signature is not made or not accepted.
use Rattle.std.specs.Prelude.{◌≡◌}
use Rattle.std.specs.String.{string_bytes}
use Rattle.sec_sigdata.specs.declared.error.DnsSecError.{DnsSecError}
use Rattle.sec_sigdata.specs.declared.error.DnsSecError.TheVariants.{Msg}

-- the same error, whose text, where it was made, has the same characters
abbrev pub IsCopyOf : DnsSecError → DnsSecError → Type 0
IsCopyOf (Msg copy) (Msg text) = string_bytes copy ≡ string_bytes text
IsCopyOf copy error = copy ≡ error
