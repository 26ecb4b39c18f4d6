-- The call that signs a record set.
use Rattle.std.specs.Prelude.{Bool, ◌&&◌, nat_eq, ℕ, ◌^◌, ◌-◌, ℤ, pos, List, [], ◌∷◌, codes, if◌then◌else◌, Result, Ok}
use Rattle.std.specs.Option.{ok_or}
use Rattle.std.specs.Str.{bytes_eq}
use Rattle.dns_text.specs.Words.{three_words}
use Rattle.dns_wire.specs.Reading.{◌>>=◌}
use Rattle.dns_names.specs.Names.{same}
use Rattle.dns_grammar.specs.Messages.{ResourceRecord}
use Rattle.dns_rdata.specs.declared.rdata.RData.{RData}
use Rattle.dns_rdata.specs.RData.{rdata_type}
use Rattle.dns_message.specs.declared.record.Record.{Record}
use Rattle.dns_message.specs.RecordSets.{Rrset}
use Rattle.sec_codes.specs.Algorithms.{algorithm_numbered}
use Rattle.sec_keydata.specs.DnsKeys.{DnsKeyData}
use Rattle.sec_digest.specs.declared.hmac.HmacHash.TheVariants.{Sha256}
use Rattle.sec_digest.specs.Hmac.{hmac}
use Rattle.sec_sigdata.specs.declared.sig_input.SigInput.{SigInput}
use Rattle.sec_sigdata.specs.Signatures.{SigData, sig_text}
use Rattle.sec_sign.specs.declared.sign_error.SignError.{SignError}
use Rattle.sec_sign.specs.Sets.{set_octets, set_of}
use Rattle.sec_sign.specs.Signed.{signed_under}
use Rattle.sec_sign.specs.Signers.{SignerData}
use Rattle.sec_sign.specs.Signing.{expiration_of, for_signature, header_of, to_sign}
use Rattle.dns_rows.specs.declared.refusal.Refusal.{Refusal}
use Rattle.dns_rows.specs.declared.refusal.Refusal.TheVariants.{NoCall}
use Rattle.dns_rows.specs.Refusals.{sign_refusal, with_refusal}
use Rattle.dns_rows.specs.CallWords.{first_four, name_in, number_in, octets_in}
use Rattle.dnsrows.specs.Messages.{message_in}
use Rattle.dnsrows.specs.Transactions.{transaction_calls}

-- ---- the set

-- whether a record has a name and a type
abbrev pub is_same : List (List ℕ) → ℕ → Record RData → Bool
is_same name rtype rr = nat_eq (rdata_type rr.rdata) rtype && same rr.name name

-- ---- the signature

-- a signer whose key has these data
abbrev pub hash_signer : DnsKeyData → List (List ℕ) → ℕ → SignerData
hash_signer dnskey name duration = record { dnskey = dnskey; signer_name = name; sig_duration = duration }

-- the fields before the signature, and the keyed hash of the octets that are signed
abbrev pub with_hash : SignerData → Result (SigInput × List ℕ) SignError → Result SigData Refusal
with_hash signer to_sign = do
  what ← with_refusal sign_refusal to_sign
  Ok (record { input = what.0; sig = hmac Sha256 signer.dnskey.public_key.octets what.1 })

-- the signature of a set in a class, from an inception on
abbrev pub signed_set : SignerData → Rrset → ℕ → ℤ → Result SigData Refusal
signed_set signer set dns_class inception =
    with_hash signer (to_sign signer.dnskey.public_key.algorithm signer set dns_class inception)

-- The same of the set of the first of records that stand in a message: the fields before the signature, and the octets
-- that are signed; or the first cause why there are none (RFC 4034 section 3.1).
abbrev pub first_to_sign : SignerData → ℤ → ResourceRecord → List ResourceRecord → Result (SigInput × List ℕ) SignError
first_to_sign signer inception rr rrs = do
  expiration ← expiration_of inception signer.sig_duration
  header ←
      header_of signer.dnskey.public_key.algorithm signer
      (record { name = rr.name; rtype = rr.rtype; ttl = rr.ttl; records = [] }) expiration inception
  octets ← for_signature (signed_under rr.name header rr.dns_class (set_octets (set_of rr) (rr ∷ rrs)))
  Ok (header, octets)

-- the text of that RRSIG, and `none` where there is no record
abbrev pub signed_text : SignerData → ℤ → List ResourceRecord → Result (List ℕ) Refusal
signed_text signer inception [] = Ok (codes "none")
signed_text signer inception (rr ∷ rrs) = do
  sig ← with_hash signer (first_to_sign signer inception rr rrs)
  Ok (sig_text sig)

-- ---- calls

-- `sign ALGORITHM KEY FLAGS SIGNER DURATION INCEPTION HEX`: the key's octets are those of its DNSKEY (RFC 4034 section
-- 2.1)
abbrev pub sign_answer : List (List ℕ) → Result (List ℕ) Refusal
sign_answer others = do
  s ← first_four others
  w ← ok_or (three_words s.4) NoCall
  algorithm ← number_in (2 ^ 8) s.0
  key ← octets_in s.1
  flags ← number_in (2 ^ 16) s.2
  name ← name_in s.3
  duration ← number_in (2 ^ 64 - 1) w.0
  inception ← number_in (2 ^ 63) w.1
  parts ← message_in w.2
  signed_text
      (hash_signer (record { flags = flags; public_key = record { octets = key; algorithm = algorithm_numbered algorithm } })
      name duration) (pos inception) parts.answers

-- what the call of this word answers
abbrev pub signing_calls : List ℕ → List (List ℕ) → Result (List ℕ) Refusal
signing_calls word others =
    if bytes_eq word (codes "sign") then sign_answer others
    else transaction_calls word others
