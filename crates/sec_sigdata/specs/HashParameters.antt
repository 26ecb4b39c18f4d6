-- How the names of a zone are hashed, in NSEC3 and NSEC3PARAM records (RFC 5155 3.1, 4.1), and the data of NSEC3PARAM
-- records (RFC 5155 4).
use Rattle.std.specs.Prelude.{ℕ, Bool, List, [], ◌∷◌, ◌++◌, codes, if◌then◌else◌}
use Rattle.std.specs.Fmt.{decimal}
use Rattle.dns_text.specs.HexText.{upper_hex}
use Rattle.dns_grammar.specs.Fields.{Value, Num, Str}
use Rattle.sec_digest.specs.declared.nsec3_hash.Nsec3HashAlgorithm.{Nsec3HashAlgorithm}
use Rattle.sec_digest.specs.declared.nsec3_hash.Nsec3HashAlgorithm.TheVariants.{SHA1}
use Rattle.sec_sigdata.specs.declared.hash_parameters.HashParameters.{HashParameters}
use Rattle.sec_sigdata.specs.declared.nsec3param.NSEC3PARAM.{NSEC3PARAM}

-- the number of a hash algorithm (RFC 5155 11)
abbrev pub hash_number : Nsec3HashAlgorithm → ℕ
hash_number SHA1 = 1

-- Opt-Out is the lowest flag, and the only one (RFC 5155 3.1.2.1)
abbrev pub opt_out_flags : Bool → ℕ
opt_out_flags opt_out = if opt_out then 1 else 0

-- how names are hashed
pub record HashData : Type 0 where
  pub hash_algorithm : Nsec3HashAlgorithm
  pub opt_out : Bool
  pub iterations : ℕ
  pub salt : List ℕ

abbrev pub parameters_data : HashParameters → HashData
parameters_data parameters = record {
  hash_algorithm = parameters.hash_algorithm;
  opt_out = parameters.opt_out;
  iterations = parameters.iterations;
  salt = parameters.salt;
}

-- the fields: hash algorithm, flags, iterations, salt
abbrev pub hash_values : HashData → List Value
hash_values hash =
    Num (hash_number hash.hash_algorithm) ∷ Num (opt_out_flags hash.opt_out) ∷ Num hash.iterations ∷ Str hash.salt ∷ []

-- a salt in upper-case hexadecimal, and `-` for none (RFC 5155 3.3)
unfoldable pub salt_text : List ℕ → List ℕ
salt_text [] = codes "-"
salt_text (octet ∷ octets) = upper_hex (octet ∷ octets)

-- hash number, flags, iterations, salt (RFC 5155 3.3, 4.3)
unfoldable pub hash_text : HashData → List ℕ
hash_text hash =
    decimal (hash_number hash.hash_algorithm) ++ codes " " ++ decimal (opt_out_flags hash.opt_out) ++ codes " "
    ++ decimal hash.iterations ++ codes " " ++ salt_text hash.salt

-- what a contract sees of an NSEC3PARAM
abbrev pub nsec3param_data : NSEC3PARAM → HashData
nsec3param_data param = parameters_data param.0
