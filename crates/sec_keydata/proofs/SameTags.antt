-- Data of the same octets have the same tag.
use Rattle.std.proofs.Common.{◌≡◌, ◌+◌, false, [], length, Ok, Err, cond, ltb, ap, arith, length-append}
use Rattle.std.specs.Result.{result_unwrap_or}
use Rattle.dns_wire.specs.Reading.{◌>>=◌}
use Rattle.dns_grammar.specs.Fields.{fields_octets}
use Rattle.sec_keydata.specs.declared.dnskey_fields.TheConstants.{LONGEST_KEY}
use Rattle.sec_keydata.specs.declared.key_data_error.KeyDataError.TheVariants.{DataTooLong}
use Rattle.sec_keydata.specs.KeyRows.{dnskey_row}
use Rattle.sec_keydata.specs.PublicKeyFields.{PublicKeyFields}
use Rattle.sec_keydata.specs.DnsKeys.{DnsKeyData, dnskey_fields, dnskey_values}
use Rattle.sec_keydata.specs.KeyTags.{key_octets, dnskey_tag, key_tag}

length-key : (key : PublicKeyFields) → length (key_octets key) ≡ 4 + length key.octets
length-key key = omega (arith, length-append key.octets [])

pub same_tag : (x y : DnsKeyData)
    → fields_octets false dnskey_row (dnskey_values x) ≡ fields_octets false dnskey_row (dnskey_values y)
    → dnskey_tag x ≡ dnskey_tag y
same_tag x y same =
    let octets : key_octets (dnskey_fields x) ≡ key_octets (dnskey_fields y) = ap (λ r. result_unwrap_or r []) same in
    let len : length x.public_key.octets ≡ length y.public_key.octets =
    omega (arith, length-key (dnskey_fields x), length-key (dnskey_fields y), ap length octets) in
    λ i. cond (ltb LONGEST_KEY (len i)) (Err DataTooLong) (Ok (octets i)) >>= λ whole. Ok (key_tag whole)
