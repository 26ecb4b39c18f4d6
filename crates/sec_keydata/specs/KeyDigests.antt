-- The digests of keys, and the records that are made of keys.
use Rattle.std.specs.Prelude.{ℕ, nat_eq, ◌&&◌, Bool, false, List, ◌++◌, Result, Ok, Err}
use Rattle.std.specs.Option.{ok_or}
use Rattle.std.specs.Result.{result_ok}
use Rattle.std.specs.Str.{bytes_eq}
use Rattle.dns_names.specs.Names.{wire, low}
use Rattle.dns_wire.specs.Reading.{◌>>=◌}
use Rattle.sec_codes.specs.Algorithms.{number}
use Rattle.sec_codes.specs.KeyForms.{Key}
use Rattle.sec_digest.specs.declared.digest_type.DigestType.{DigestType}
use Rattle.sec_digest.specs.Digests.{digest, digest_number}
use Rattle.sec_keydata.specs.declared.key_data_error.KeyDataError.{KeyDataError}
use Rattle.sec_keydata.specs.declared.key_data_error.KeyDataError.TheVariants.{UnknownDigestAlgorithm}
use Rattle.sec_keydata.specs.DsData.{DsData}
use Rattle.sec_keydata.specs.DnsKeyFlags.{is_zone_key}
use Rattle.sec_keydata.specs.DnsKeys.{DnsKeyData, dnskey_fields}
use Rattle.sec_keydata.specs.KeyTags.{held_octets, dnskey_tag, is_tag}
use Rattle.sec_keydata.specs.PublicKeyFields.{PublicKeyFields}

-- The digest of an owner's DNSKEY with these fields: that of the owner's wire form in lower case, and the data. Data
-- that no record holds are refused first, and then a digest type that has no hash function.
abbrev pub fields_digest : List (List ℕ) → PublicKeyFields → DigestType → Result (List ℕ) KeyDataError
fields_digest owner key kind = do
  octets ← held_octets key
  ok_or (result_ok (digest kind (wire (low owner) ++ octets))) (UnknownDigestAlgorithm (digest_number kind))

-- the digest of an owner's key
abbrev pub ds_digest : List (List ℕ) → DnsKeyData → DigestType → Result (List ℕ) KeyDataError
ds_digest owner key kind = fields_digest owner (dnskey_fields key) kind

-- the DNSKEY of a public key: one of a zone, and a secure entry point
abbrev pub secure_entry_key : Key → DnsKeyData
secure_entry_key key = record { flags = 257; public_key = key }

-- the DS of an owner's public key
abbrev pub ds_of_key : List (List ℕ) → Key → DigestType → Result DsData KeyDataError
ds_of_key owner key kind = do
  tag ← dnskey_tag (secure_entry_key key)
  octets ← ds_digest owner (secure_entry_key key) kind
  Ok (record { key_tag = tag; algorithm = key.algorithm; digest_type = kind; digest = octets })

-- Whether a DS covers an owner's key: the key is one of a zone (RFC 4034 5.2), and its digest is that of the DS. A key
-- without a digest of the type of the DS is refused, whatever its flags are.
abbrev pub covered : List (List ℕ) → DsData → DnsKeyData → Result Bool KeyDataError
covered owner ds key = do
  octets ← ds_digest owner key ds.digest_type
  Ok (is_zone_key key.flags && bytes_eq octets ds.digest)

-- whether an answer is that the key is covered
abbrev pub is_covered : Result Bool KeyDataError → Bool
is_covered (Ok is) = is
is_covered (Err _) = false

-- Whether a DS identifies an owner's key (RFC 4034 5.2): it has the key's tag and algorithm, and covers it. A digest type
-- without a hash function identifies no key (RFC 4035 5.2), and a key that no record holds is identified by none.
abbrev pub identifies : List (List ℕ) → DsData → DnsKeyData → Bool
identifies owner ds key =
    is_tag (dnskey_tag key) ds.key_tag
    && (nat_eq (number ds.algorithm) (number key.public_key.algorithm) && is_covered (covered owner ds key))
