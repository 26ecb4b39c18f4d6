-- The fields of DNSKEY and CDNSKEY data (RFC 4034 2.1, RFC 7344 3.2), and their text.
use Rattle.std.specs.Prelude.{ℕ, List, [], ◌∷◌, ◌++◌, codes}
use Rattle.std.specs.Fmt.{decimal}
use Rattle.base64.specs.Engines.{standard}
use Rattle.base64.specs.GeneralPurpose.{encode_of}
use Rattle.dns_grammar.specs.Fields.{Value, Num, Str}
use Rattle.sec_keydata.specs.declared.dnskey_fields.DnskeyFields.{DnskeyFields}

-- flags, number of the algorithm, and key; the protocol is 3
pub record PublicKeyFields : Type 0 where
  pub flags : ℕ
  pub algorithm : ℕ
  pub octets : List ℕ

-- the fields of a key that is lent
abbrev pub lent_fields : DnskeyFields → PublicKeyFields
lent_fields fields = record { flags = fields.flags; algorithm = fields.algorithm; octets = fields.public_key.now }

-- the values of the fields
abbrev pub public_key_values : PublicKeyFields → List Value
public_key_values key = Num key.flags ∷ Num 3 ∷ Num key.algorithm ∷ Str key.octets ∷ []

-- flags, 3, algorithm number, key in base64 (RFC 4034 2.2)
abbrev pub public_key_text : PublicKeyFields → List ℕ
public_key_text key =
    decimal key.flags ++ codes " 3 " ++ decimal key.algorithm ++ codes " " ++ encode_of standard key.octets
