-- Keys and digests of keys by the values of their data.
use Rattle.std.proofs.Common.{◌≡◌, Some, sym, ap}
use Rattle.sec_codes.specs.declared.algorithm.Algorithm.{Algorithm}
use Rattle.sec_codes.specs.Algorithms.{number, algorithm_numbered}
use Rattle.sec_digest.specs.declared.digest_type.DigestType.{DigestType}
use Rattle.sec_digest.specs.Digests.{digest_number, digest_type}
use Rattle.sec_keydata.specs.DnsKeys.{DnsKeyData, dnskey_values, DnsKeyIsByNumber}
use Rattle.sec_keydata.specs.DsData.{DsData, ds_values, DsIsByNumber}
use Rattle.dns_rows.specs.KeyWords.{key_of_values, ds_of_values}

abbrev with_algorithm : DnsKeyData → Algorithm → DnsKeyData
with_algorithm key algorithm = record {
  flags = key.flags;
  public_key = record { octets = key.public_key.octets; algorithm = algorithm };
}

-- a key is that of its values
pub key_of_its_values : (key : DnsKeyData) → DnsKeyIsByNumber key → key_of_values (dnskey_values key) ≡ Some key
key_of_its_values key h = ap (λ a. Some (with_algorithm key a)) (sym h)

abbrev with_codes : DsData → Algorithm → DigestType → DsData
with_codes ds algorithm kind = record {
  key_tag = ds.key_tag;
  algorithm = algorithm;
  digest_type = kind;
  digest = ds.digest;
}

-- a DS is that of its values
pub ds_of_its_values : (ds : DsData) → DsIsByNumber ds → ds_of_values (ds_values ds) ≡ Some ds
ds_of_its_values ds h i = Some (with_codes ds (sym h.algorithm i) (sym h.digest_type i))
