-- What checking a signature answers (RFC 4035 5.3.3), over a scheme that tells whether a signature is right.
use Rattle.std.specs.Prelude.{Bool, if◌then◌else◌, ℕ, List, Result, Ok, Err}
use Rattle.dns_wire.specs.Reading.{◌>>=◌}
use Rattle.sec_codes.specs.declared.algorithm.Algorithm.{Algorithm}
use Rattle.sec_codes.specs.declared.key_error.KeyError.{KeyError}
use Rattle.sec_codes.specs.declared.key_error.KeyError.TheVariants.{Crypto}
use Rattle.sec_codes.specs.KeyForms.{key_form}

-- why a key lacks its form, and where it has it, whether the signature was accepted
abbrev pub verified : Algorithm → List ℕ → Bool → Result (Unit {0}) KeyError
verified a key accepted = do
  kind ← key_form a key
  if accepted then Ok tt else Err (Crypto kind)
