-- The texts of DNSKEY and DS records (RFC 4034 2.2, 5.3), as words that are separated by spaces and tabs. A fault is
-- the first in the order in which the fields are read here.
use Rattle.std.specs.Prelude.{ℕ, ◌*◌, ◌/◌, ◌^◌, List, [], ◌∷◌, length, take, codes, nat_eq, if◌then◌else◌, Option, Some}
use Rattle.std.specs.Prelude.{None, Result, Ok, Err}
use Rattle.std.specs.List.{concat}
use Rattle.std.specs.Option.{ok_or, option_or, option_map}
use Rattle.std.specs.Result.{result_ok}
use Rattle.std.specs.Str.{bytes_eq}
use Rattle.base64.specs.Engines.{standard}
use Rattle.base64.specs.GeneralPurpose.{encode_of, decode_of}
use Rattle.hex.specs.Hex as hexadecimal
use Rattle.dns_text.specs.Words.{words, number_below}
use Rattle.dns_wire.specs.Reading.{◌>>=◌}
use Rattle.sec_codes.specs.declared.algorithm.Algorithm.{Algorithm}
use Rattle.sec_codes.specs.declared.algorithm.Algorithm.TheVariants.{RSASHA1, Unknown}
use Rattle.sec_codes.specs.Algorithms.{algorithm_numbered}
use Rattle.sec_digest.specs.Digests.{digest_type}
use Rattle.sec_keydata.specs.declared.token_error.TokenError.{TokenError}
use Rattle.sec_keydata.specs.declared.token_error.TokenError.TheVariants.{Missing, BadNumber, ProtocolNot3, BadBase64}
use Rattle.sec_keydata.specs.declared.token_error.TokenError.TheVariants.{BadHex}
use Rattle.sec_keydata.specs.declared.token_error.TokenField.{TokenField}
use Rattle.sec_keydata.specs.declared.token_error.TokenField.TheVariants as fields
use Rattle.sec_keydata.specs.DsData.{DsData}
use Rattle.sec_keydata.specs.DnsKeys.{DnsKeyData}

-- ---- words and fields

-- the first word and the others, where there is one
abbrev pub first_word : TokenField → List (List ℕ) → Result (List ℕ × List (List ℕ)) TokenError
first_word field [] = Err (Missing field)
first_word field (word ∷ others) = Ok (word, others)

-- the words joined, where there is one
abbrev pub joined_words : TokenField → List (List ℕ) → Result (List ℕ) TokenError
joined_words field [] = Err (Missing field)
joined_words field (word ∷ others) = Ok (concat (word ∷ others))

-- the number below a limit that a word's decimal digits write; leading zeros are allowed
abbrev pub number_in : ℕ → List ℕ → Result ℕ TokenError
number_in limit word = ok_or (number_below limit word) BadNumber

-- the protocol of a DNSKEY is 3 (RFC 4034 2.1.2)
abbrev pub protocol_3 : ℕ → Result (Unit {0}) TokenError
protocol_3 n = if nat_eq n 3 then Ok tt else Err ProtocolNot3

-- the octets whose base64 a text is: it decodes to them, and encoding them gives it back (RFC 4648 3.5, 4)
abbrev pub base64_octets : List ℕ → Result (List ℕ) TokenError
base64_octets text = do
  octets ← ok_or (result_ok (decode_of standard text)) BadBase64
  if bytes_eq (encode_of standard octets) text then Ok octets else Err BadBase64

-- the octets that the pairs of a text write in hexadecimal digits of either case; a single octet left at the end is
-- dropped
abbrev pub hex_octets : List ℕ → Result (List ℕ) TokenError
hex_octets text = ok_or (result_ok (hexadecimal.decode_of (take (length text / 2 * 2) text))) BadHex

-- The mnemonics of algorithms (RFC 4034 appendix A.1) and the algorithms that they are read as: RSASHA1, and the others
-- as unknown ones of their numbers.
abbrev pub mnemonics : List (List ℕ × Algorithm)
mnemonics =
    (codes "RSAMD5", Unknown 1)
    ∷ (codes "DH", Unknown 2)
    ∷ (codes "DSA", Unknown 3)
    ∷ (codes "ECC", Unknown 4)
    ∷ (codes "RSASHA1", RSASHA1)
    ∷ (codes "INDIRECT", Unknown 252)
    ∷ (codes "PRIVATEDNS", Unknown 253)
    ∷ (codes "PRIVATEOID", Unknown 254)
    ∷ []

-- the algorithm beside a word in a table
abbrev pub algorithm_beside : List (List ℕ × Algorithm) → List ℕ → Option Algorithm
algorithm_beside [] word = None
algorithm_beside (entry ∷ table) word = if bytes_eq word entry.0 then Some entry.1 else algorithm_beside table word

-- the algorithm whose number below 256 a word writes
abbrev pub algorithm_by_number : List ℕ → Option Algorithm
algorithm_by_number word = option_map algorithm_numbered (number_below (2 ^ 8) word)

-- the algorithm that a word names by its mnemonic, or by its number
abbrev pub algorithm_in : List ℕ → Result Algorithm TokenError
algorithm_in word = ok_or (option_or (algorithm_beside mnemonics word) (algorithm_by_number word)) BadNumber

-- ---- records

-- the DNSKEY that words tell: flags, 3, algorithm number, and the key in base64
abbrev pub dnskey_in : List (List ℕ) → Result DnsKeyData TokenError
dnskey_in all = do
  flags ← first_word fields.Flags all
  protocol ← first_word fields.Protocol flags.1
  algorithm ← first_word fields.Algorithm protocol.1
  flags_number ← number_in (2 ^ 16) flags.0
  protocol_number ← number_in (2 ^ 8) protocol.0
  _ ← protocol_3 protocol_number
  algorithm_number ← number_in (2 ^ 8) algorithm.0
  text ← joined_words fields.PublicKey algorithm.1
  octets ← base64_octets text
  Ok (record {
    flags = flags_number;
    public_key = record { octets = octets; algorithm = algorithm_numbered algorithm_number };
  })

-- the DNSKEY of a text
abbrev pub token_dnskey : List ℕ → Result DnsKeyData TokenError
token_dnskey text = dnskey_in (words text)

-- the DS that words tell: key tag, algorithm, digest type number, and the digest in hexadecimal
abbrev pub ds_in : List (List ℕ) → Result DsData TokenError
ds_in all = do
  tag ← first_word fields.KeyTag all
  algorithm ← first_word fields.Algorithm tag.1
  kind ← first_word fields.DigestType algorithm.1
  tag_number ← number_in (2 ^ 16) tag.0
  named ← algorithm_in algorithm.0
  kind_number ← number_in (2 ^ 8) kind.0
  text ← joined_words fields.Digest kind.1
  octets ← hex_octets text
  Ok (record { key_tag = tag_number; algorithm = named; digest_type = digest_type kind_number; digest = octets })

-- the DS of a text
abbrev pub token_ds : List ℕ → Result DsData TokenError
token_ds text = ds_in (words text)
