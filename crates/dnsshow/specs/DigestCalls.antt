-- What the calls on digests are answered, by the words after their own.
use Rattle.std.specs.Prelude.{ℕ, ◌^◌, List, codes, if◌then◌else◌, Result, Ok}
use Rattle.std.specs.Option.{ok_or}
use Rattle.std.specs.Str.{bytes_eq}
use Rattle.sha1.specs.Sha1.{sha1}
use Rattle.dns_text.specs.Words.{two_words, three_words}
use Rattle.dns_wire.specs.Reading.{◌>>=◌}
use Rattle.dns_names.specs.Names.{wire, low}
use Rattle.sec_digest.specs.Base32.{base32}
use Rattle.sec_digest.specs.Digests.{digest, digest_type, iterated_hash}
use Rattle.sec_sigdata.specs.TsigAlgorithms.{tsig_algorithm_named, mac_of}
use Rattle.dns_rows.specs.declared.refusal.Refusal.{Refusal}
use Rattle.dns_rows.specs.declared.refusal.Refusal.TheVariants.{NoCall}
use Rattle.dns_rows.specs.Refusals.{decode_refusal, mac_refusal, with_refusal}
use Rattle.dns_rows.specs.Rows.{hex_word}
use Rattle.dns_rows.specs.CallWords.{name_in, octets_in, number_in}
use Rattle.dnsshow.specs.TextCalls.{text_calls}

-- `hash NUMBER HEX`: the digest of octets by the digest type of DS records that has this number
abbrev pub hash_answer : List (List ℕ) → Result (List ℕ) Refusal
hash_answer others = do
  w ← ok_or (two_words others) NoCall
  number ← number_in (2 ^ 8) w.0
  octets ← octets_in w.1
  made ← with_refusal decode_refusal (digest (digest_type number) octets)
  Ok (hex_word made)

-- `mac ALGORITHM KEY HEX`: the MAC of octets under a key, by the TSIG algorithm of this name (RFC 8945 section 6)
abbrev pub mac_answer : List (List ℕ) → Result (List ℕ) Refusal
mac_answer others = do
  w ← ok_or (three_words others) NoCall
  algorithm ← name_in w.0
  key ← octets_in w.1
  message ← octets_in w.2
  mac ← with_refusal mac_refusal (mac_of (tsig_algorithm_named algorithm) key message)
  Ok (hex_word mac)

-- `nsec3 NAME SALT N`: the hash of a name with so many iterations more (RFC 5155 section 5), in base32
abbrev pub nsec3_answer : List (List ℕ) → Result (List ℕ) Refusal
nsec3_answer others = do
  w ← ok_or (three_words others) NoCall
  name ← name_in w.0
  salt ← octets_in w.1
  iterations ← number_in (2 ^ 16) w.2
  Ok (base32 (iterated_hash sha1 salt (wire (low name)) iterations))

-- the calls on digests, and then the others
abbrev pub digest_calls : List ℕ → List (List ℕ) → Result (List ℕ) Refusal
digest_calls word others =
    if bytes_eq word (codes "hash") then hash_answer others
    else if bytes_eq word (codes "mac") then mac_answer others
    else if bytes_eq word (codes "nsec3") then nsec3_answer others
    else text_calls word others
