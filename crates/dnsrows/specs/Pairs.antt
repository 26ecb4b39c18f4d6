-- The calls on a signature and a key, and on what a signature says of its records.
use Rattle.std.specs.Prelude.{ℕ, ◌^◌, ◌-◌, min, List, [], ◌∷◌, codes, find, nat_eq, Option, None, option_and_then, option_map, if◌then◌else◌}
use Rattle.std.specs.Prelude.{Result, Ok}
use Rattle.std.specs.Fmt.{decimal}
use Rattle.std.specs.Option.{ok_or}
use Rattle.std.specs.Str.{bytes_eq}
use Rattle.dns_text.specs.Words.{four_words, two_words}
use Rattle.dns_wire.specs.Reading.{◌>>=◌}
use Rattle.dns_names.specs.NameText.{name_text}
use Rattle.dns_types.specs.TypeNumbers as types
use Rattle.dns_grammar.specs.Messages.{ResourceRecord}
use Rattle.sec_sigdata.specs.Signatures.{SigData}
use Rattle.sec_sign.specs.MessageSignatures.{rrsig_in}
use Rattle.sec_sign.specs.declared.pair.PairVerdict.{PairVerdict}
use Rattle.sec_sign.specs.declared.pair.PairVerdict.TheVariants.{NotMet, NotAccepted, Authentic}
use Rattle.sec_sign.specs.Sets.{SetName, set_octets}
use Rattle.sec_sign.specs.Pairs.{ZoneKey, rrsig_verdict}
use Rattle.sec_sign.specs.Signed.{signed_owner}
use Rattle.dns_rows.specs.declared.refusal.Refusal.{Refusal}
use Rattle.dns_rows.specs.declared.refusal.Refusal.TheVariants.{NoCall}
use Rattle.dns_rows.specs.Refusals.{tbs_refusal, with_refusal}
use Rattle.dns_rows.specs.CallTexts.{text_or_none}
use Rattle.dns_rows.specs.CallWords.{first_four, name_in, class_in, type_in, number_in}
use Rattle.dns_rows.specs.KeyWords.{key_in}
use Rattle.dnsrows.specs.Messages.{message_in}
use Rattle.dnsrows.specs.Scheme.{keyed_hash}
use Rattle.dnsrows.specs.Signing.{signing_calls}

-- ---- pairs

abbrev pub verdict_word : PairVerdict → List ℕ
verdict_word NotMet = codes "NotMet"
verdict_word NotAccepted = codes "NotAccepted"
verdict_word Authentic = codes "Authentic"

-- the first record of type RRSIG
abbrev pub first_rrsig : List ResourceRecord → Option ResourceRecord
first_rrsig = find (λ rr. nat_eq rr.rtype types.RRSIG)

-- the verdict on a record and a key at a moment, for the set that is among these records
abbrev pub verdict_among : ℕ → SetName → ZoneKey → List ResourceRecord → ResourceRecord → PairVerdict
verdict_among moment set key answers rr =
    rrsig_verdict keyed_hash moment set key (set_octets set answers) rr.name rr.dns_class (rrsig_in rr)

-- the verdict on the first record of type RRSIG among these, if there is one
abbrev pub pair_text : ℕ → SetName → ZoneKey → List ResourceRecord → List ℕ
pair_text moment set key answers =
    text_or_none (λ rr. verdict_word (verdict_among moment set key answers rr)) (first_rrsig answers)

-- ---- how long a record may be kept

-- at most its own TTL, the original one, and what is left of the signature's time (RFC 4035 section 5.3.3)
abbrev pub kept_by : ℕ → ResourceRecord → SigData → ℕ
kept_by time rr sig = min rr.ttl (min sig.input.original_ttl (sig.input.sig_expiration.0 - time))

-- for how long the first of these records may be kept by the first signature among them
abbrev pub kept_for : ℕ → List ResourceRecord → Option ℕ
kept_for time [] = None
kept_for time (rr ∷ rrs) =
    option_map (kept_by time rr) (option_and_then rrsig_in (first_rrsig (rr ∷ rrs)))

-- ---- calls

-- `pair MOMENT NAME CLASS TYPE KEYOWNER KEYCLASS KEY HEX`
abbrev pub pair_answer : List (List ℕ) → Result (List ℕ) Refusal
pair_answer others = do
  s ← first_four others
  w ← ok_or (four_words s.4) NoCall
  moment ← number_in (2 ^ 32) s.0
  name ← name_in s.1
  dns_class ← class_in s.2
  rtype ← type_in s.3
  owner ← name_in w.0
  key_class ← class_in w.1
  key ← key_in w.2
  parts ← message_in w.3
  Ok (pair_text moment (record { name = name; dns_class = dns_class; rtype = rtype })
      (record { owner = owner; dns_class = key_class; dnskey = key }) parts.answers)

-- `owner NAME LABELS`
abbrev pub owner_answer : List (List ℕ) → Result (List ℕ) Refusal
owner_answer others = do
  w ← ok_or (two_words others) NoCall
  name ← name_in w.0
  labels ← number_in (2 ^ 8) w.1
  owner ← with_refusal tbs_refusal (signed_owner name labels)
  Ok (name_text owner)

-- `keep TIME HEX`
abbrev pub keep_answer : List (List ℕ) → Result (List ℕ) Refusal
keep_answer others = do
  w ← ok_or (two_words others) NoCall
  time ← number_in (2 ^ 32) w.0
  parts ← message_in w.1
  Ok (text_or_none decimal (kept_for time parts.answers))

-- what the call of this word answers
abbrev pub pair_calls : List ℕ → List (List ℕ) → Result (List ℕ) Refusal
pair_calls word others =
    if bytes_eq word (codes "pair") then pair_answer others
    else if bytes_eq word (codes "owner") then owner_answer others
    else if bytes_eq word (codes "keep") then keep_answer others
    else signing_calls word others
