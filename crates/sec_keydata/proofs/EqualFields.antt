-- Data of equal fields are equal.
use Rattle.std.proofs.Common.{◌≡◌, ap, sym, ◌∙◌}
use Rattle.dns_grammar.proofs.EqualValues.{same_number, same_octets}
use Rattle.sec_codes.specs.Algorithms.{algorithm_numbered}
use Rattle.sec_digest.specs.Digests.{digest_type}
use Rattle.sec_keydata.specs.OptionalAlgorithms.{optional_algorithm}
use Rattle.sec_keydata.specs.KeyUses.{protocol_numbered}
use Rattle.sec_keydata.specs.DnsKeys.{DnsKeyData, CdnsKeyData, DnsKeyIsByNumber, CdnsKeyIsByNumber, dnskey_values}
use Rattle.sec_keydata.specs.DnsKeys.{cdnskey_values}
use Rattle.sec_keydata.specs.DsData.{DsData, CdsData, DsIsByNumber, CdsIsByNumber, ds_values, cds_values}
use Rattle.sec_keydata.specs.KeyData.{KeyData, KeyIsByNumber, key_values}

pub ds_equal : (x y : DsData) → DsIsByNumber x → DsIsByNumber y → ds_values x ≡ ds_values y → x ≡ y
ds_equal x y a b same =
    let tag : x.key_tag ≡ y.key_tag = same_number same 0 in
    let algorithm : x.algorithm ≡ y.algorithm = a.algorithm
    ∙ (ap algorithm_numbered (same_number same 1) ∙ sym b.algorithm) in
    let kind : x.digest_type ≡ y.digest_type = a.digest_type
    ∙ (ap digest_type (same_number same 2) ∙ sym b.digest_type) in
    let digest : x.digest ≡ y.digest = same_octets same 3 in
    λ i. record { key_tag = tag i; algorithm = algorithm i; digest_type = kind i; digest = digest i }

pub cds_equal : (x y : CdsData) → CdsIsByNumber x → CdsIsByNumber y → cds_values x ≡ cds_values y → x ≡ y
cds_equal x y a b same =
    let tag : x.key_tag ≡ y.key_tag = same_number same 0 in
    let algorithm : x.algorithm ≡ y.algorithm = a.algorithm
    ∙ (ap optional_algorithm (same_number same 1) ∙ sym b.algorithm) in
    let kind : x.digest_type ≡ y.digest_type = a.digest_type
    ∙ (ap digest_type (same_number same 2) ∙ sym b.digest_type) in
    let digest : x.digest ≡ y.digest = same_octets same 3 in
    λ i. record { key_tag = tag i; algorithm = algorithm i; digest_type = kind i; digest = digest i }

pub key_equal : (x y : KeyData) → KeyIsByNumber x → KeyIsByNumber y → key_values x ≡ key_values y → x ≡ y
key_equal x y a b same =
    let flags : x.flags ≡ y.flags = same_number same 0 in
    let protocol : x.protocol ≡ y.protocol = a.protocol
    ∙ (ap protocol_numbered (same_number same 1) ∙ sym b.protocol) in
    let algorithm : x.algorithm ≡ y.algorithm = a.algorithm
    ∙ (ap algorithm_numbered (same_number same 2) ∙ sym b.algorithm) in
    let octets : x.public_key ≡ y.public_key = same_octets same 3 in
    λ i. record { flags = flags i; protocol = protocol i; algorithm = algorithm i; public_key = octets i }

pub dnskey_equal : (x y : DnsKeyData) → DnsKeyIsByNumber x → DnsKeyIsByNumber y → dnskey_values x ≡ dnskey_values y
    → x ≡ y
dnskey_equal x y a b same =
    let flags : x.flags ≡ y.flags = same_number same 0 in
    let algorithm : x.public_key.algorithm ≡ y.public_key.algorithm = a
    ∙ (ap algorithm_numbered (same_number same 2) ∙ sym b) in
    let octets : x.public_key.octets ≡ y.public_key.octets = same_octets same 3 in
    λ i. record { flags = flags i; public_key = record { octets = octets i; algorithm = algorithm i } }

pub cdnskey_equal : (x y : CdnsKeyData) → CdnsKeyIsByNumber x → CdnsKeyIsByNumber y
    → cdnskey_values x ≡ cdnskey_values y → x ≡ y
cdnskey_equal x y a b same =
    let flags : x.flags ≡ y.flags = same_number same 0 in
    let algorithm : x.algorithm ≡ y.algorithm = a ∙ (ap optional_algorithm (same_number same 2) ∙ sym b) in
    let octets : x.octets ≡ y.octets = same_octets same 3 in
    λ i. record { flags = flags i; algorithm = algorithm i; octets = octets i }

pub ruleset equal_fields = (ds_equal, cds_equal, key_equal, dnskey_equal, cdnskey_equal)
