-- What the calls on algorithms and keys are answered, by the words after their own.
use Rattle.std.specs.Prelude.{ℕ, ◌^◌, List, ◌++◌, codes, if◌then◌else◌, Result, Ok}
use Rattle.std.specs.Fmt.{decimal}
use Rattle.std.specs.Option.{ok_or, option_map_or}
use Rattle.std.specs.Str.{bytes_eq}
use Rattle.dns_text.specs.Words.{one_word, two_words}
use Rattle.dns_wire.specs.Reading.{◌>>=◌}
use Rattle.sec_codes.specs.declared.algorithm.Algorithm.{Algorithm}
use Rattle.sec_codes.specs.declared.key_error.KeyError.TheVariants.{BadRsaKey}
use Rattle.sec_codes.specs.declared.key_error.KeyKind.{KeyKind}
use Rattle.sec_codes.specs.declared.key_error.KeyKind.TheVariants as kinds
use Rattle.sec_codes.specs.Algorithms.{algorithm_numbered, text, hash_len, supported}
use Rattle.sec_codes.specs.KeyForms.{key_form, rsa_parts}
use Rattle.dns_rows.specs.declared.refusal.Refusal.{Refusal}
use Rattle.dns_rows.specs.declared.refusal.Refusal.TheVariants.{NoCall, Key}
use Rattle.dns_rows.specs.Refusals.{key_refusal, with_refusal}
use Rattle.dns_rows.specs.Rows.{hex_word}
use Rattle.dns_rows.specs.CallWords.{octets_in, number_in}
use Rattle.dns_rows.specs.CallTexts.{yes_or_no}
use Rattle.dnsshow.specs.DigestCalls.{digest_calls}

-- an algorithm's name, how many octets its digest has, and whether its keys are taken
abbrev pub algorithm_text : Algorithm → List ℕ
algorithm_text a =
    text a ++ codes " " ++ option_map_or decimal (hash_len a) (codes "-") ++ codes " " ++ yes_or_no (supported a)

-- `algorithm NUMBER`
abbrev pub algorithm_answer : List (List ℕ) → Result (List ℕ) Refusal
algorithm_answer others = do
  word ← ok_or (one_word others) NoCall
  number ← number_in (2 ^ 8) word
  Ok (algorithm_text (algorithm_numbered number))

-- the parts of a key of a form: of RSA the exponent and the modulus (RFC 3110 section 2)
abbrev pub key_text : KeyKind → List ℕ → Result (List ℕ) Refusal
key_text kinds.Ec octets = Ok (codes "EC " ++ hex_word octets)
key_text kinds.Ed octets = Ok (codes "Ed25519 " ++ hex_word octets)
key_text kinds.Rsa octets = do
  parts ← ok_or (rsa_parts octets) (Key BadRsaKey)
  Ok (codes "RSA " ++ hex_word parts.0 ++ codes " " ++ hex_word parts.1)

-- `key ALGORITHM HEX`: the parts of the public key in these octets
abbrev pub key_answer : List (List ℕ) → Result (List ℕ) Refusal
key_answer others = do
  w ← ok_or (two_words others) NoCall
  number ← number_in (2 ^ 8) w.0
  octets ← octets_in w.1
  kind ← with_refusal key_refusal (key_form (algorithm_numbered number) octets)
  key_text kind octets

-- the calls on algorithms and keys, and then the others
abbrev pub code_calls : List ℕ → List (List ℕ) → Result (List ℕ) Refusal
code_calls word others =
    if bytes_eq word (codes "algorithm") then algorithm_answer others
    else if bytes_eq word (codes "key") then key_answer others
    else digest_calls word others
