-- The data of DNSKEY records (RFC 4034 2) and of CDNSKEY records (RFC 7344 3.2, RFC 8078 4).
use Rattle.std.specs.Prelude.{◌≡◌, ℕ, List, Option}
use Rattle.std.specs.Option.{option_map}
use Rattle.dns_grammar.specs.Fields.{Value}
use Rattle.sec_codes.specs.declared.algorithm.Algorithm.{Algorithm}
use Rattle.sec_codes.specs.Algorithms.{number, algorithm_numbered}
use Rattle.sec_codes.specs.KeyForms.{Key}
use Rattle.sec_codes.specs.KeptKeys.{kept_key}
use Rattle.sec_keydata.specs.declared.dnskey.DNSKEY.{DNSKEY}
use Rattle.sec_keydata.specs.declared.cdnskey.CDNSKEY.{CDNSKEY}
use Rattle.sec_keydata.specs.OptionalAlgorithms.{optional_algorithm_number, optional_algorithm}
use Rattle.sec_keydata.specs.PublicKeyFields.{PublicKeyFields, public_key_values, public_key_text}

-- ---- DNSKEY

-- what a contract sees of a DNSKEY: the flags, and the key with its algorithm
pub record DnsKeyData : Type 0 where
  pub flags : ℕ
  pub public_key : Key

abbrev pub dnskey_data : DNSKEY → DnsKeyData
dnskey_data key = record { flags = key.flags; public_key = kept_key key.public_key }

-- its fields, their values and their text
abbrev pub dnskey_fields : DnsKeyData → PublicKeyFields
dnskey_fields key = record {
  flags = key.flags;
  algorithm = number key.public_key.algorithm;
  octets = key.public_key.octets;
}

abbrev pub dnskey_values : DnsKeyData → List Value
dnskey_values key = public_key_values (dnskey_fields key)

abbrev pub dnskey_text : DnsKeyData → List ℕ
dnskey_text key = public_key_text (dnskey_fields key)

-- The algorithm is that of its number: none with a name of its own is called unknown.
abbrev pub DnsKeyIsByNumber : DnsKeyData → Type 0
DnsKeyIsByNumber key = key.public_key.algorithm ≡ algorithm_numbered (number key.public_key.algorithm)

-- ---- CDNSKEY

-- what a contract sees of a CDNSKEY: the flags, the algorithm, and the octets of the key
pub record CdnsKeyData : Type 0 where
  pub flags : ℕ
  pub algorithm : Option Algorithm
  pub octets : List ℕ

abbrev pub cdnskey_data : CDNSKEY → CdnsKeyData
cdnskey_data key = record { flags = key.flags; algorithm = key.algorithm; octets = key.public_key.items }

-- its fields, their values and their text
abbrev pub cdnskey_fields : CdnsKeyData → PublicKeyFields
cdnskey_fields key = record {
  flags = key.flags;
  algorithm = optional_algorithm_number key.algorithm;
  octets = key.octets;
}

abbrev pub cdnskey_values : CdnsKeyData → List Value
cdnskey_values key = public_key_values (cdnskey_fields key)

abbrev pub cdnskey_text : CdnsKeyData → List ℕ
cdnskey_text key = public_key_text (cdnskey_fields key)

-- the algorithm is that of its number, and none for 0
abbrev pub CdnsKeyIsByNumber : CdnsKeyData → Type 0
CdnsKeyIsByNumber key = key.algorithm ≡ optional_algorithm (optional_algorithm_number key.algorithm)

-- the key, and none where the record asks for deletion
abbrev pub key_unless_delete : CdnsKeyData → Option Key
key_unless_delete key = option_map (λ algorithm. record { octets = key.octets; algorithm = algorithm }) key.algorithm
