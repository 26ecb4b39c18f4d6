-- The text of record data by their type and the values of their fields: the fields in order, one space between each two
-- (RFC 1035 section 5.1), and the octets of a type that nothing is known of (RFC 3597 section 5).
use Rattle.std.specs.Prelude.{ℕ, List, [], ◌∷◌, ◌++◌, map, codes, Option, Some, None, unwrap_or}
use Rattle.std.specs.Fmt.{decimal}
use Rattle.std.specs.Net.Addr.{segments_of}
use Rattle.std.specs.Net.Text.{ipv4_text, ipv6_text}
use Rattle.base64.specs.Engines.{standard}
use Rattle.base64.specs.GeneralPurpose.{encode_of}
use Rattle.dns_text.specs.HexText.{lower_hex, upper_hex}
use Rattle.dns_wire.specs.Lookup.{lookup}
use Rattle.dns_names.specs.NameText.{name_text, name_text_without_dot}
use Rattle.dns_types.specs.Codes.{type_text}
use Rattle.dns_types.specs.TypeNumbers as types
use Rattle.dns_grammar.specs.Fields.{Value, Num, Str, Strs, Named}
use Rattle.sec_codes.specs.Algorithms.{text, algorithm_numbered}
use Rattle.sec_digest.specs.Base32.{base32}
use Rattle.sec_sigdata.specs.HashParameters.{salt_text}
use Rattle.sec_sigdata.specs.TypeLists.{types_text}
use Rattle.dns_rdata.specs.Texts.{unknown_text, quoted_text, strings_text}

-- texts, one space between each two
abbrev pub spaced : List (List ℕ) → List ℕ
spaced [] = []
spaced (first ∷ []) = first
spaced (first ∷ next ∷ others) = first ++ codes " " ++ spaced (next ∷ others)

-- ---- each row of the table of record data; values of other rows have no text

-- an address of IPv4 (RFC 1035 section 3.4.1)
abbrev pub a_text : List Value → List ℕ
a_text (Str octets ∷ []) = ipv4_text octets
a_text _ = []

-- an address of IPv6 (RFC 3596 section 2.4)
abbrev pub aaaa_text : List Value → List ℕ
aaaa_text (Str octets ∷ []) = ipv6_text (segments_of octets)
aaaa_text _ = []

-- octets of which nothing is known (RFC 3597 section 5)
abbrev pub octets_text : List Value → List ℕ
octets_text (Str octets ∷ []) = unknown_text octets
octets_text _ = []

-- numbers, names and strings, each as it stands (RFC 1035 section 3.3, RFC 2782, RFC 3403 section 4.1)
abbrev pub plain_text : Value → List ℕ
plain_text (Num number) = decimal number
plain_text (Named n) = name_text n
plain_text (Str string) = quoted_text string
plain_text (Strs strings) = strings_text strings

abbrev pub plain_texts : List Value → List ℕ
plain_texts values = spaced (map plain_text values)

-- flags, protocol, number of the algorithm, key in base64 (RFC 4034 section 2.2)
abbrev pub dnskey_text : List Value → List ℕ
dnskey_text (Num flags ∷ Num protocol ∷ Num algorithm ∷ Str key ∷ []) =
    spaced (decimal flags ∷ decimal protocol ∷ decimal algorithm ∷ encode_of standard key ∷ [])
dnskey_text _ = []

-- flags, protocol, name of the algorithm, key in base64 (RFC 2535 section 7.1)
abbrev pub key_text : List Value → List ℕ
key_text (Num flags ∷ Num protocol ∷ Num algorithm ∷ Str key ∷ []) =
    spaced (
    decimal flags ∷ decimal protocol ∷ text (algorithm_numbered algorithm) ∷ encode_of standard key ∷ []
    )
key_text _ = []

-- key tag, number of the algorithm, number of the digest type, digest in hexadecimal (RFC 4034 section 5.3)
abbrev pub ds_text : List Value → List ℕ
ds_text (Num tag ∷ Num algorithm ∷ Num kind ∷ Str digest ∷ []) =
    spaced (decimal tag ∷ decimal algorithm ∷ decimal kind ∷ upper_hex digest ∷ [])
ds_text _ = []

-- type covered, name of the algorithm, labels, original TTL, expiration and inception as numbers of seconds, key tag,
-- signer's name, signature in base64 (RFC 4034 section 3.2)
abbrev pub signature_text : List Value → List ℕ
signature_text (
    Num covered ∷ Num algorithm ∷ Num labels ∷ Num ttl ∷ Num expiration ∷ Num inception ∷ Num tag ∷ Named signer
    ∷ Str signature ∷ []
    ) =
    spaced (
    type_text covered ∷ text (algorithm_numbered algorithm) ∷ decimal labels ∷ decimal ttl ∷ decimal expiration
    ∷ decimal inception ∷ decimal tag ∷ name_text signer ∷ encode_of standard signature ∷ []
    )
signature_text _ = []

-- the next name, and the types, each after a space (RFC 4034 section 4.2)
abbrev pub nsec_text : List Value → List ℕ
nsec_text (Named next ∷ Str set ∷ []) = name_text next ++ types_text set
nsec_text _ = []

-- hash algorithm, flags, iterations, salt in hexadecimal or `-`, the next hash in base32, and the types, each after a
-- space (RFC 5155 section 3.3)
abbrev pub nsec3_text : List Value → List ℕ
nsec3_text (Num algorithm ∷ Num flags ∷ Num iterations ∷ Str salt ∷ Str next ∷ Str set ∷ []) =
    spaced (
    decimal algorithm ∷ decimal flags ∷ decimal iterations ∷ salt_text salt ∷ (base32 next ++ types_text set) ∷ []
    )
nsec3_text _ = []

-- hash algorithm, flags, iterations, salt in hexadecimal or `-` (RFC 5155 section 4.3)
abbrev pub nsec3param_text : List Value → List ℕ
nsec3param_text (Num algorithm ∷ Num flags ∷ Num iterations ∷ Str salt ∷ []) =
    spaced (decimal algorithm ∷ decimal flags ∷ decimal iterations ∷ salt_text salt ∷ [])
nsec3param_text _ = []

-- algorithm, time, fudge, MAC in hexadecimal, original ID, error, other data in hexadecimal (RFC 8945 section 4.2)
abbrev pub tsig_text : List Value → List ℕ
tsig_text (
    Named algorithm ∷ Num time ∷ Num fudge ∷ Str mac ∷ Num original ∷ Num error ∷ Str other ∷ []
    ) =
    spaced (
    name_text_without_dot algorithm ∷ decimal time ∷ decimal fudge ∷ lower_hex mac ∷ decimal original ∷ decimal error
    ∷ lower_hex other ∷ []
    )
tsig_text _ = []

-- ---- each type

-- the texts of the types of the table of record data, in its order
abbrev pub data_texts : List (ℕ × (List Value → List ℕ))
data_texts =
    (types.A, a_text)
    ∷ (types.NS, plain_texts)
    ∷ (types.MD, plain_texts)
    ∷ (types.MF, plain_texts)
    ∷ (types.CNAME, plain_texts)
    ∷ (types.SOA, plain_texts)
    ∷ (types.MB, plain_texts)
    ∷ (types.MG, plain_texts)
    ∷ (types.MR, plain_texts)
    ∷ (types.NULL, octets_text)
    ∷ (types.PTR, plain_texts)
    ∷ (types.MINFO, plain_texts)
    ∷ (types.MX, plain_texts)
    ∷ (types.TXT, plain_texts)
    ∷ (types.RP, plain_texts)
    ∷ (types.AFSDB, plain_texts)
    ∷ (types.RT, plain_texts)
    ∷ (types.SIG, signature_text)
    ∷ (types.KEY, key_text)
    ∷ (types.PX, plain_texts)
    ∷ (types.AAAA, aaaa_text)
    ∷ (types.SRV, plain_texts)
    ∷ (types.NAPTR, plain_texts)
    ∷ (types.KX, plain_texts)
    ∷ (types.DNAME, plain_texts)
    ∷ (types.OPT, octets_text)
    ∷ (types.DS, ds_text)
    ∷ (types.RRSIG, signature_text)
    ∷ (types.NSEC, nsec_text)
    ∷ (types.DNSKEY, dnskey_text)
    ∷ (types.NSEC3, nsec3_text)
    ∷ (types.NSEC3PARAM, nsec3param_text)
    ∷ (types.CDS, ds_text)
    ∷ (types.CDNSKEY, dnskey_text)
    ∷ (types.TSIG, tsig_text)
    ∷ []

-- the text of data of a type, and of empty data
abbrev pub data_text : ℕ → Option (List Value) → List ℕ
data_text rtype None = unknown_text []
data_text rtype (Some values) = unwrap_or (lookup data_texts rtype) octets_text values
