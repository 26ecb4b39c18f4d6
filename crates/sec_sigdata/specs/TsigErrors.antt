-- The errors of TSIG records (RFC 8945 3; IANA, DNS RCODEs).
use Rattle.std.specs.Prelude.{Bool, true, false, ℕ, List, [], ◌∷◌, map, nat_eq, if◌then◌else◌, Option, Some, None}
use Rattle.std.specs.Prelude.{unwrap_or}
use Rattle.dns_wire.specs.Lookup.{lookup}
use Rattle.sec_sigdata.specs.declared.tsig_error.TsigError.{TsigError}
use Rattle.sec_sigdata.specs.declared.tsig_error.TsigError.TheVariants.{BadSig, BadKey, BadTime, BadTrunc, Unknown}

-- the number of an error
abbrev pub error_number : TsigError → ℕ
error_number BadSig = 16
error_number BadKey = 17
error_number BadTime = 18
error_number BadTrunc = 22
error_number (Unknown n) = n

-- the errors that have a name of their own
abbrev pub known_errors : List TsigError
known_errors = BadSig ∷ BadKey ∷ BadTime ∷ BadTrunc ∷ []

-- the error of a number, which is unknown where none of these has it
abbrev pub error_numbered : ℕ → TsigError
error_numbered n = unwrap_or (lookup (map (λ error. (error_number error, error)) known_errors) n) (Unknown n)

-- whether an error is one that is not known
abbrev pub is_unknown : TsigError → Bool
is_unknown (Unknown n) = true
is_unknown _ = false

-- the number of an error in a TSIG record, and 0 for none (RFC 8945 4.2)
abbrev pub optional_error_number : Option TsigError → ℕ
optional_error_number None = 0
optional_error_number (Some error) = error_number error

-- the error of a number in a TSIG record, and none for 0
abbrev pub optional_error : ℕ → Option TsigError
optional_error n = if nat_eq n 0 then None else Some (error_numbered n)
