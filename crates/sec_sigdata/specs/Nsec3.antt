-- The data of NSEC3 records (RFC 5155 3).
use Rattle.std.specs.Prelude.{ℕ, List, [], ◌∷◌, ◌++◌, codes}
use Rattle.dns_grammar.specs.Fields.{Value, Str}
use Rattle.sec_digest.specs.Base32.{base32}
use Rattle.sec_sigdata.specs.declared.nsec3.NSEC3.{NSEC3}
use Rattle.sec_sigdata.specs.HashParameters.{HashData, parameters_data, hash_values, hash_text}
use Rattle.sec_sigdata.specs.TypeLists.{types_text}

-- what a contract sees of an NSEC3: how names are hashed, the next hash in the zone, and the bitmap of the types at the
-- name that was hashed
pub record Nsec3Data : Type 0 where
  pub hash : HashData
  pub next_hashed_owner_name : List ℕ
  pub types : List ℕ

abbrev pub nsec3_data : NSEC3 → Nsec3Data
nsec3_data nsec3 = record {
  hash = parameters_data nsec3.parameters;
  next_hashed_owner_name = nsec3.next_hashed_owner_name;
  types = nsec3.types;
}

-- the fields of the data
abbrev pub nsec3_values : Nsec3Data → List Value
nsec3_values nsec3 = hash_values nsec3.hash ++ Str nsec3.next_hashed_owner_name ∷ Str nsec3.types ∷ []

-- how names are hashed, the next hash in base32, and the types (RFC 5155 3.3)
abbrev pub nsec3_text : Nsec3Data → List ℕ
nsec3_text nsec3 = hash_text nsec3.hash ++ codes " " ++ base32 nsec3.next_hashed_owner_name ++ types_text nsec3.types
