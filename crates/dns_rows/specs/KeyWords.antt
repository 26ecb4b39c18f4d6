-- The words of a call that write keys and digests of keys by their data.
use Rattle.std.specs.Prelude.{ℕ, List, [], ◌∷◌, Option, Some, None, Result}
use Rattle.std.specs.Option.{ok_or}
use Rattle.dns_wire.specs.Reading.{◌>>=◌}
use Rattle.dns_grammar.specs.Fields.{Value, Num, Str}
use Rattle.dns_grammar.specs.RecordData.{one_type_data_at}
use Rattle.sec_codes.specs.Algorithms.{algorithm_numbered}
use Rattle.sec_digest.specs.Digests.{digest_type}
use Rattle.sec_keydata.specs.KeyRows.{dnskey_row, ds_row}
use Rattle.sec_keydata.specs.DnsKeys.{DnsKeyData}
use Rattle.sec_keydata.specs.DsData.{DsData}
use Rattle.dns_rows.specs.declared.refusal.Refusal.{Refusal}
use Rattle.dns_rows.specs.declared.refusal.Refusal.TheVariants.{NoCall}
use Rattle.dns_rows.specs.Refusals.{decode_refusal, with_refusal}
use Rattle.dns_rows.specs.CallWords.{data_octets_in}

-- the key whose DNSKEY data have these values (RFC 4034 section 2.1)
abbrev pub key_of_values : List Value → Option DnsKeyData
key_of_values (Num flags ∷ Num _ ∷ Num algorithm ∷ Str octets ∷ []) = Some (record {
  flags = flags;
  public_key = record { octets = octets; algorithm = algorithm_numbered algorithm };
})
key_of_values _ = None

-- the DS whose data have these values (RFC 4034 section 5.1)
abbrev pub ds_of_values : List Value → Option DsData
ds_of_values (Num tag ∷ Num algorithm ∷ Num kind ∷ Str octets ∷ []) = Some (record {
  key_tag = tag;
  algorithm = algorithm_numbered algorithm;
  digest_type = digest_type kind;
  digest = octets;
})
ds_of_values _ = None

-- the key whose DNSKEY data a word writes in hexadecimal
abbrev pub key_in : List ℕ → Result DnsKeyData Refusal
key_in word = do
  octets ← data_octets_in word
  values ← with_refusal decode_refusal (one_type_data_at dnskey_row octets.0 0 octets.1)
  ok_or (key_of_values values.0) NoCall

-- the DS whose data a word writes in hexadecimal
abbrev pub ds_in : List ℕ → Result DsData Refusal
ds_in word = do
  octets ← data_octets_in word
  values ← with_refusal decode_refusal (one_type_data_at ds_row octets.0 0 octets.1)
  ok_or (ds_of_values values.0) NoCall
