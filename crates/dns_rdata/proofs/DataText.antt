-- That the text of data is the text of their type and values.
use Rattle.std.proofs.Common.{◌≡◌, ℕ, Bool, true, false, nat_eq, List, [], ◌∷◌, ◌++◌, Option, Some, None, refl, sym}
use Rattle.std.proofs.Common.{true≢false, ap, ◌∙◌, append_assoc}
use Rattle.std.specs.Prelude.{map, unwrap_or, is_some, codes, if◌then◌else◌}
use Rattle.std.specs.Fmt.{decimal, digits}
use Rattle.base64.specs.Engines.{standard}
use Rattle.base64.specs.GeneralPurpose.{encode_of}
use Rattle.dns_wire.specs.Lookup.{lookup}
use Rattle.dns_grammar.specs.Fields.{Value, Str}
use Rattle.dns_rdata.specs.declared.dnssec_rdata.DNSSECRData.{DNSSECRData}
use Rattle.dns_rdata.specs.declared.dnssec_rdata.DNSSECRData.TheVariants as dnssec
use Rattle.dns_rdata.specs.declared.rdata.RData.{RData}
use Rattle.dns_rdata.specs.declared.rdata.RData.TheVariants as rdata
use Rattle.dns_names.specs.NameText.{name_text}
use Rattle.dns_types.specs.Codes.{type_text}
use Rattle.sec_codes.specs.declared.algorithm.Algorithm.{Algorithm}
use Rattle.sec_codes.specs.Algorithms.{text}
use Rattle.sec_keydata.specs.KeyData.{KeyData, key_data, key_values, key_text as key_data_text, KeyIsByNumber}
use Rattle.sec_keydata.specs.DnsKeys.{dnskey_data, dnskey_fields, cdnskey_data, cdnskey_fields}
use Rattle.sec_keydata.specs.PublicKeyFields.{PublicKeyFields, public_key_values, public_key_text}
use Rattle.sec_keydata.specs.KeyUses.{protocol_number}
use Rattle.sec_sigdata.specs.HashParameters.{hash_text}
use Rattle.sec_sigdata.specs.Signatures.{SigData, kind_text, times_text, sig_data, rrsig_data, sig_text, sig_values}
use Rattle.sec_sigdata.specs.Signatures.{SigIsByNumber}
use Rattle.sec_sigdata.specs.TsigRecords.{signed_text, error_text}
use Rattle.dns_rdata.specs.DataText.{spaced, octets_text, dnskey_text, key_text, signature_text, data_texts, data_text}
use Rattle.dns_rdata.specs.PlainData.{null_octets}
use Rattle.dns_rdata.specs.Texts.{quoted_text, soa_times_text, naptr_strings_text}
use Rattle.dns_rdata.specs.RData.{dnssec_type, dnssec_values, dnssec_text, DnssecIsByNumber}
use Rattle.dns_rdata.specs.RData.{rdata_type, rdata_values, rdata_text, RDataIsByNumber}
use Rattle.dns_rdata.specs.RDataTable.{rdata_table}

-- ---- the types that have texts

-- whether a number is one of these
abbrev known : ℕ → List ℕ → Bool
known n [] = false
known n (k ∷ ks) = if nat_eq k n then true else known n ks

-- the numbers of a table
abbrev numbers : {A : Type 0} → List (ℕ × A) → List ℕ
numbers table = map (λ entry. entry.0) table

found_step : {A : Type 0} (b k : Bool) (x : A) (o : Option A) → is_some o ≡ k
    → is_some (if b then Some x else o) ≡ (if b then true else k)
found_step true k x o h = refl
found_step false k x o h = h

found : {A : Type 0} (table : List (ℕ × A)) (n : ℕ) → is_some (lookup table n) ≡ known n (numbers table)
found [] n = refl
found (entry ∷ table) n =
    found_step (nat_eq entry.0 n) (known n (numbers table)) entry.1 (lookup table n) (found table n)

none : {A : Type 0} (o : Option A) → is_some o ≡ false → o ≡ None
none None h = refl
none (Some x) h = absurd (true≢false h)

-- a type of which nothing is known has no text of its own
no_text : (rtype : ℕ) → lookup rdata_table rtype ≡ None → lookup data_texts rtype ≡ None
no_text rtype h =
    none (lookup data_texts rtype)
    (found data_texts rtype ∙ sym (found rdata_table rtype) ∙ ap is_some h)

-- ---- each type

-- the text of a signature, its algorithm apart
abbrev signed_by : SigData → Algorithm → List ℕ
signed_by sig algorithm =
    spaced (
    type_text sig.input.type_covered ∷ text algorithm ∷ decimal sig.input.num_labels ∷ decimal sig.input.original_ttl
    ∷ decimal sig.input.sig_expiration.0 ∷ decimal sig.input.sig_inception.0 ∷ decimal sig.input.key_tag
    ∷ name_text sig.input.signer_name ∷ encode_of standard sig.sig ∷ []
    )

signature : (sig : SigData) → SigIsByNumber sig → sig_text sig ≡ signature_text (sig_values sig)
unfolding kind_text times_text
signature sig h =
    let spaces : sig_text sig ≡ signed_by sig sig.input.algorithm = simp append_assoc in
    spaces ∙ ap (signed_by sig) h

-- the text of a KEY, its algorithm apart
abbrev key_by : KeyData → Algorithm → List ℕ
key_by key algorithm =
    spaced (
    decimal key.flags ∷ decimal (protocol_number key.protocol) ∷ text algorithm ∷ encode_of standard key.public_key ∷ []
    )

key : (key : KeyData) → KeyIsByNumber key → key_data_text key ≡ key_text (key_values key)
key data_of h =
    let spaces : key_data_text data_of ≡ key_by data_of data_of.algorithm = simp append_assoc in
    spaces ∙ ap (key_by data_of) h.algorithm

-- a protocol, which is 3, between two spaces
protocol : (flags algorithm octets : List ℕ)
    → flags ++ codes " 3 " ++ algorithm ++ codes " " ++ octets
    ≡ spaced (flags ∷ decimal 3 ∷ algorithm ∷ octets ∷ [])
unfolding digits
protocol flags algorithm octets = simp append_assoc

-- the text of a public key
public_key : (key : PublicKeyFields) → public_key_text key ≡ dnskey_text (public_key_values key)
public_key key = protocol (decimal key.flags) (decimal key.algorithm) (encode_of standard key.octets)

dnssec_text_of_data : (x : DNSSECRData) → DnssecIsByNumber x
    → dnssec_text x ≡ data_text (dnssec_type x) (Some (dnssec_values x))
unfolding hash_text
dnssec_text_of_data (dnssec.DNSKEY x) h = public_key (dnskey_fields (dnskey_data x))
dnssec_text_of_data (dnssec.CDNSKEY x) h = public_key (cdnskey_fields (cdnskey_data x))
dnssec_text_of_data (dnssec.KEY x) h = key (key_data x) h
dnssec_text_of_data (dnssec.RRSIG x) h = signature (rrsig_data x) h
dnssec_text_of_data (dnssec.SIG x) h = signature (sig_data x) h
dnssec_text_of_data (dnssec.Unknown code null) h = absurd h
dnssec_text_of_data (dnssec.NSEC x) h = refl
dnssec_text_of_data x h = simp append_assoc

-- six texts, of which the third to the fifth stand together
six : (a b c d e f : List ℕ)
    → a ++ codes " " ++ b ++ codes " " ++ (c ++ codes " " ++ d ++ codes " " ++ e) ++ codes " " ++ f
    ≡ spaced (a ∷ b ∷ c ∷ d ∷ e ∷ f ∷ [])
six a b c d e f = simp append_assoc

pub text_of_data : (x : RData) → RDataIsByNumber x → rdata_text x ≡ data_text (rdata_type x) (rdata_values x)
unfolding soa_times_text naptr_strings_text signed_text error_text
text_of_data (rdata.DNSSEC x) h = dnssec_text_of_data x h
text_of_data (rdata.Unknown rtype null) h =
    ap (λ (o : Option (List Value → List ℕ)). unwrap_or o octets_text (Str (null_octets null) ∷ []))
    (sym (no_text rtype h))
text_of_data (rdata.PX px) h = simp append_assoc
text_of_data (rdata.SOA soa) h = simp append_assoc
text_of_data (rdata.SRV srv) h = simp append_assoc
text_of_data (rdata.NAPTR naptr) h =
    six (decimal naptr.order) (decimal naptr.preference) (quoted_text naptr.flags) (quoted_text naptr.services)
    (quoted_text naptr.regexp) (name_text naptr.replacement)
text_of_data (rdata.TSIG tsig) h = simp append_assoc
text_of_data _ h = refl
