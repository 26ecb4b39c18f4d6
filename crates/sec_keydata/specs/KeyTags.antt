-- Key tags (RFC 4034 appendix B).
use Rattle.std.specs.Prelude.{Bool, false, ℕ, ◌+◌, ◌*◌, ◌/◌, ◌%◌, ◌^◌, List, [], ◌∷◌, length, sum, nat_lt, if◌then◌else◌}
use Rattle.std.specs.Prelude.{Result, Ok, Err, nat_eq}
use Rattle.std.specs.Result.{result_unwrap_or}
use Rattle.dns_wire.specs.Reading.{◌>>=◌}
use Rattle.dns_grammar.specs.Fields.{fields_octets}
use Rattle.sec_keydata.specs.declared.key_data_error.KeyDataError.{KeyDataError}
use Rattle.sec_keydata.specs.declared.key_data_error.KeyDataError.TheVariants.{DataTooLong}
use Rattle.sec_keydata.specs.KeyRows.{dnskey_row}
use Rattle.sec_keydata.specs.PublicKeyFields.{PublicKeyFields, public_key_values}
use Rattle.sec_keydata.specs.DnsKeys.{DnsKeyData, dnskey_fields}

-- the octets at even places, counted from 0
abbrev pub even_places : List ℕ → List ℕ
even_places [] = []
even_places (octet ∷ []) = octet ∷ []
even_places (octet ∷ _ ∷ octets) = octet ∷ even_places octets

-- the octets at odd places
abbrev pub odd_places : List ℕ → List ℕ
odd_places [] = []
odd_places (_ ∷ []) = []
odd_places (_ ∷ octet ∷ octets) = octet ∷ odd_places octets

-- the sum of the octets, those at even places times 256
abbrev pub octet_sum : List ℕ → ℕ
octet_sum octets = 256 * sum (even_places octets) + sum (odd_places octets)

-- the tag of a sum: what passes sixteen bits is added to it, and the tag is the last sixteen bits
abbrev pub tag_of_sum : ℕ → ℕ
tag_of_sum s = (s + s / 2 ^ 16) % 2 ^ 16

-- the tag of data
abbrev pub key_tag : List ℕ → ℕ
key_tag octets = tag_of_sum (octet_sum octets)

-- the octets of a DNSKEY's data, which can be written whatever they are
abbrev pub key_octets : PublicKeyFields → List ℕ
key_octets key = result_unwrap_or (fields_octets false dnskey_row (public_key_values key)) []

-- how many octets a key has at most: with four others they are the data of a record (RFC 1035 3.2.1)
abbrev pub longest_key : ℕ
longest_key = 65531

-- the same where a record holds them
abbrev pub held_octets : PublicKeyFields → Result (List ℕ) KeyDataError
held_octets key = if nat_lt longest_key (length key.octets) then Err DataTooLong else Ok (key_octets key)

-- the tag of a DNSKEY with these fields
abbrev pub fields_tag : PublicKeyFields → Result ℕ KeyDataError
fields_tag key = do
  octets ← held_octets key
  Ok (key_tag octets)

-- the tag of a DNSKEY
abbrev pub dnskey_tag : DnsKeyData → Result ℕ KeyDataError
dnskey_tag key = fields_tag (dnskey_fields key)

-- whether a tag is this number; what has no tag has no number
abbrev pub is_tag : Result ℕ KeyDataError → ℕ → Bool
is_tag (Ok tag) n = nat_eq tag n
is_tag (Err _) n = false
