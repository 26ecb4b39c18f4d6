-- What is printed of a DNSKEY is read as the DNSKEY.
use Rattle.std.proofs.Common.{◌≡◌, ◌<◌, ◌+◌, ◌*◌, ◌/◌, ◌%◌, ◌^◌, ℕ, zero, suc, Bool, true, false, ◌||◌, List, [], ◌∷◌}
use Rattle.std.proofs.Common.{◌++◌, length, get_or, replicate, Result, Ok, Err, Some, refl, sym, ap, subst, ◌∙◌}
use Rattle.std.proofs.Common.{append_assoc, arith, codes, append-nil, length-append}
use Rattle.std.specs.Char.{is_ascii_digit, digit_value}
use Rattle.std.specs.Fmt.{decimal}
use Rattle.std.specs.List.{AllByRecursion, list_all, list_any, before_first, after_first, slice_index}
use Rattle.std.specs.Option.{ok_or}
use Rattle.std.specs.Str.{bytes_eq}
use Rattle.std.specs.Str.Parse.{AllDigits}
use Rattle.std.proofs.lemmas.Bool.{lt-ltb}
use Rattle.std.proofs.lemmas.Bool.Decides.{nat_tests}
use Rattle.std.proofs.lemmas.List.{nil_from_length}
use Rattle.std.proofs.lemmas.Fmt.{decimal_is_IsNumeral}
use Rattle.std.proofs.lemmas.Slice.Eq.{bytes_eq-Decides}
use Rattle.base64.specs.Engines.{standard}
use Rattle.base64.specs.GeneralPurpose.{encode_of, engine_symbols, IsBytes}
use Rattle.base64.specs.Rfc4648.{encode_symbols, padding_len}
use Rattle.base64.proofs.EngineFacts.{decode_of-encode_of}
use Rattle.dns_wire.specs.Octets.{AreOctets}
use Rattle.dns_text.specs.Words.{is_blank, words, number_below}
use Rattle.dns_text.proofs.Cuts.{before_yes, before_no, after_yes, after_no, words-cut}
use Rattle.sec_codes.specs.Algorithms.{algorithm_numbered, number}
use Rattle.sec_keydata.specs.declared.token_error.TokenError.{TokenError}
use Rattle.sec_keydata.specs.declared.token_error.TokenError.TheVariants.{Missing, BadNumber}
use Rattle.sec_keydata.specs.declared.token_error.TokenField.TheVariants.{PublicKey}
use Rattle.sec_keydata.specs.DnsKeys.{DnsKeyData, DnsKeyIsByNumber, dnskey_text}
use Rattle.sec_keydata.specs.Tokens.{number_in, base64_octets, dnskey_in, token_dnskey}

-- what holds of each element, and of the one that stands for none, holds at each place
pub at_place : (P : ℕ → Type 0) (xs : List ℕ) → AllByRecursion P xs → P 0 → (k : ℕ) → P (get_or xs k 0)
at_place P [] all none k = none
at_place P (x ∷ xs) all none zero = all.0
at_place P (x ∷ xs) all none (suc k) = at_place P xs all.1 none k

both : (P : ℕ → Type 0) (xs ys : List ℕ) → AllByRecursion P xs → AllByRecursion P ys → AllByRecursion P (xs ++ ys)
both P [] ys all more = more
both P (x ∷ xs) ys all more = (all.0, both P xs ys all.1 more)

pub copies : (P : ℕ → Type 0) (n x : ℕ) → P x → AllByRecursion P (replicate n x)
copies P zero x holds = tt
copies P (suc n) x holds = (holds, copies P n x holds)

-- ---- words

-- no octet is a blank
abbrev pub NoBlank : List ℕ → Type 0
NoBlank = AllByRecursion (λ octet. is_blank octet ≡ false)

neither : (a b : Bool) → (a || b) ≡ false → (a ≡ false) × (b ≡ false)
neither false b h = (refl, h)
neither true b h = absurd (cc)

pub no_blanks : (octets : List ℕ) → list_any is_blank octets ≡ false → NoBlank octets
no_blanks [] h = tt
no_blanks (x ∷ octets) h = let each = neither (is_blank x) (list_any is_blank octets) h in
    (each.0, no_blanks octets each.1)

before : (word : List ℕ) (blank : ℕ) (rest : List ℕ) → NoBlank word → is_blank blank ≡ true
    → before_first is_blank (word ++ blank ∷ rest) ≡ word
before [] blank rest none is = before_yes is_blank blank rest is
before (x ∷ word) blank rest none is = before_no is_blank x (word ++ blank ∷ rest) none.0
    ∙ ap (λ t. x ∷ t) (before word blank rest none.1 is)

after : (word : List ℕ) (blank : ℕ) (rest : List ℕ) → NoBlank word → is_blank blank ≡ true
    → after_first is_blank (word ++ blank ∷ rest) ≡ rest
after [] blank rest none is = after_yes is_blank blank rest is
after (x ∷ word) blank rest none is = after_no is_blank x (word ++ blank ∷ rest) none.0
    ∙ after word blank rest none.1 is

-- a word before a blank
pub word_before : (word : List ℕ) (blank : ℕ) (rest : List ℕ) → NoBlank word → 0 < length word → is_blank blank ≡ true
    → words (word ++ blank ∷ rest) ≡ word ∷ words rest
word_before word blank rest none some is =
    let front = before word blank rest none is in
    let behind = after word blank rest none is in
    words-cut (word ++ blank ∷ rest) (subst (λ (t : List ℕ). 0 < length t) (sym front) some)
    ∙ (ap (λ t. t ∷ words (after_first is_blank (word ++ blank ∷ rest))) front ∙ ap (λ t. word ∷ words t) behind)

before_end : (word : List ℕ) → NoBlank word → before_first is_blank word ≡ word
before_end [] none = refl
before_end (x ∷ word) none = before_no is_blank x word none.0 ∙ ap (λ t. x ∷ t) (before_end word none.1)

after_end : (word : List ℕ) → NoBlank word → after_first is_blank word ≡ []
after_end [] none = refl
after_end (x ∷ word) none = after_no is_blank x word none.0 ∙ after_end word none.1

-- a word alone
pub word_alone : (word : List ℕ) → NoBlank word → 0 < length word → words word ≡ word ∷ []
word_alone word none some =
    let front = before_end word none in
    words-cut word (subst (λ (t : List ℕ). 0 < length t) (sym front) some)
    ∙ (ap (λ t. t ∷ words (after_first is_blank word)) front ∙ ap (λ t. word ∷ words t) (after_end word none))

-- the words of a text as a DNSKEY is printed
three_words : (x y z : List ℕ) → NoBlank x → 0 < length x → NoBlank y → 0 < length y
    → words (x ++ codes " 3 " ++ y ++ codes " " ++ z) ≡ x ∷ codes "3" ∷ y ∷ words z
three_words x y z clear some none more =
    let apart : x ++ codes " 3 " ++ y ++ codes " " ++ z
    ≡ x ++ 32 ∷ (codes "3" ++ 32 ∷ (y ++ 32 ∷ z)) = simp append_assoc in
    ap words apart ∙ (word_before x 32 (codes "3" ++ 32 ∷ (y ++ 32 ∷ z)) clear some refl
    ∙ ap (λ t. x ∷ t) (word_before (codes "3") 32 (y ++ 32 ∷ z) (refl, tt) (omega arith) refl
    ∙ ap (λ t. codes "3" ∷ t) (word_before y 32 z none more refl)))

-- ---- numbers

pub digit_is : (c : ℕ) → digit_value c < 10 → is_ascii_digit c ≡ true
digit_is c h = grind (arith, nat_tests)

digit_no_blank : (c : ℕ) → digit_value c < 10 → is_blank c ≡ false
digit_no_blank c h = grind (arith, nat_tests)

digits_are : (digits : List ℕ) → AllDigits 10 digits → list_all is_ascii_digit digits ≡ true
digits_are [] h = refl
digits_are (c ∷ digits) h = rw (digit_is c h.0) (digits_are digits h.1)

pub digits_no_blank : (digits : List ℕ) → AllDigits 10 digits → NoBlank digits
digits_no_blank [] h = tt
digits_no_blank (c ∷ digits) h = (digit_no_blank c h.0, digits_no_blank digits h.1)

pub decimal_no_blank : (n : ℕ) → n < 2 ^ 16 → NoBlank (decimal n)
decimal_no_blank n small = digits_no_blank (decimal n) (decimal_is_IsNumeral n (omega (arith, small))).0.1

pub decimal_some : (n : ℕ) → n < 2 ^ 16 → 0 < length (decimal n)
decimal_some n small = (decimal_is_IsNumeral n (omega (arith, small))).0.0

pub number_below-decimal : (limit n : ℕ) → n < limit → n < 2 ^ 16 → number_below limit (decimal n) ≡ Some n
number_below-decimal limit n lt small =
    let numeral = decimal_is_IsNumeral n (omega (arith, small)) in
    rw (lt-ltb 0 (length (decimal n)) numeral.0.0, digits_are (decimal n) numeral.0.1, numeral.1, lt-ltb n limit lt)
    refl

pub number_back : (limit n : ℕ) → n < limit → n < 2 ^ 16 → number_in limit (decimal n) ≡ Ok n
number_back limit n lt small = ap (λ o. ok_or o BadNumber) (number_below-decimal limit n lt small)

-- ---- base64

abbrev table : List ℕ
table = engine_symbols standard

symbol : (k : ℕ) → is_blank (slice_index table k) ≡ false
symbol k = at_place (λ octet. is_blank octet ≡ false) table (no_blanks table refl) refl k

symbols_no_blank : (octets : List ℕ) → NoBlank (encode_symbols table octets)
unfolding encode_symbols
symbols_no_blank [] = tt
symbols_no_blank (a ∷ []) = (symbol (a / 4), (symbol (a % 4 * 16), tt))
symbols_no_blank (a ∷ b ∷ []) = (symbol (a / 4), (symbol (a % 4 * 16 + b / 16), (symbol (b % 16 * 4), tt)))
symbols_no_blank (a ∷ b ∷ c ∷ octets) = (
  symbol (a / 4),
  (symbol (a % 4 * 16 + b / 16), (symbol (b % 16 * 4 + c / 64), (symbol (c % 64), symbols_no_blank octets))),
)

some_symbols : (a : ℕ) (octets : List ℕ) → 0 < length (encode_symbols table (a ∷ octets))
unfolding encode_symbols
some_symbols a [] = omega arith
some_symbols a (b ∷ []) = omega arith
some_symbols a (b ∷ c ∷ octets) = omega arith

base64_no_blank : (octets : List ℕ) → NoBlank (encode_of standard octets)
base64_no_blank octets = both (λ octet. is_blank octet ≡ false) (encode_symbols table octets)
    (replicate (padding_len (length octets)) 61) (symbols_no_blank octets)
    (copies (λ octet. is_blank octet ≡ false) (padding_len (length octets)) 61 refl)

base64_some : (octets : List ℕ) → 0 < length octets → 0 < length (encode_of standard octets)
base64_some [] some = absurd (omega (arith, some))
base64_some (a ∷ octets) some = omega (
  arith,
  some_symbols a octets,
  length-append (encode_symbols table (a ∷ octets))
      (replicate (padding_len (length (a ∷ octets))) 61),
)

no_text : words (encode_of standard []) ≡ []
unfolding encode_symbols
no_text = refl

base64_back : (octets : List ℕ) → AreOctets octets → base64_octets (encode_of standard octets) ≡ Ok octets
base64_back octets are =
    let bytes : IsBytes octets = at_place (λ octet. octet < 256) octets are (omega arith) in
    let same : bytes_eq (encode_of standard octets) (encode_of standard octets)
    ≡ true = (bytes_eq-Decides (encode_of standard octets) (encode_of standard octets)).1 refl in
    rw (decode_of-encode_of standard octets refl bytes, same) refl

-- ---- DNSKEY

dnskey_of : (x y text : List ℕ) (f n : ℕ) (octets : List ℕ) → number_in (2 ^ 16) x ≡ Ok f → number_in (2 ^ 8) y ≡ Ok n
    → base64_octets text ≡ Ok octets
    → dnskey_in (x ∷ codes "3" ∷ y ∷ text ∷ []) ≡ Ok
    (record { flags = f; public_key = record { octets = octets; algorithm = algorithm_numbered n } })
dnskey_of x y text f n octets flags algorithm key = rw (flags, algorithm, append-nil text, key) refl

dnskey_without_key : (x y : List ℕ) (f n : ℕ) → number_in (2 ^ 16) x ≡ Ok f → number_in (2 ^ 8) y ≡ Ok n
    → dnskey_in (x ∷ codes "3" ∷ y ∷ []) ≡ Err (Missing PublicKey)
dnskey_without_key x y f n flags algorithm = rw (flags, algorithm) refl

module _ (key : DnsKeyData) (small : key.flags < 2 ^ 16) (few : number key.public_key.algorithm < 2 ^ 8) where
  words_are : words (dnskey_text key) ≡ decimal key.flags ∷ codes "3" ∷ decimal (number key.public_key.algorithm)
      ∷ words (encode_of standard key.public_key.octets)
  words_are =
      let less : number key.public_key.algorithm < 2 ^ 16 = omega (arith, few) in
      three_words (decimal key.flags) (decimal (number key.public_key.algorithm))
      (encode_of standard key.public_key.octets) (decimal_no_blank key.flags small) (decimal_some key.flags small)
      (decimal_no_blank (number key.public_key.algorithm) less) (decimal_some (number key.public_key.algorithm) less)

  flags_back : number_in (2 ^ 16) (decimal key.flags) ≡ Ok key.flags
  flags_back = number_back (2 ^ 16) key.flags small small

  algorithm_back : number_in (2 ^ 8) (decimal (number key.public_key.algorithm)) ≡ Ok (number key.public_key.algorithm)
  algorithm_back = number_back (2 ^ 8) (number key.public_key.algorithm) few (omega (arith, few))

  pub text_back : DnsKeyIsByNumber key → AreOctets key.public_key.octets → 0 < length key.public_key.octets
      → token_dnskey (dnskey_text key) ≡ Ok key
  text_back named are some =
      let text : List ℕ = encode_of standard key.public_key.octets in
      let alone : words text ≡ text ∷ [] = word_alone text (base64_no_blank key.public_key.octets)
      (base64_some key.public_key.octets some) in
      ap dnskey_in (words_are ∙ ap (λ t. decimal key.flags ∷ codes "3" ∷ decimal (number key.public_key.algorithm)
      ∷ t) alone)
      ∙ (dnskey_of (decimal key.flags) (decimal (number key.public_key.algorithm)) text key.flags
      (number key.public_key.algorithm) key.public_key.octets flags_back algorithm_back
      (base64_back key.public_key.octets are)
      ∙ ap (λ a. let ok : Result DnsKeyData TokenError = Ok
      (record { flags = key.flags; public_key = record { octets = key.public_key.octets; algorithm = a } }) in ok)
      (sym named))

  pub keyless_text_back : length key.public_key.octets ≡ 0 → token_dnskey (dnskey_text key) ≡ Err (Missing PublicKey)
  keyless_text_back none =
      let empty : key.public_key.octets ≡ [] = nil_from_length key.public_key.octets none in
      ap dnskey_in (words_are ∙ ap (λ t. decimal key.flags ∷ codes "3" ∷ decimal (number key.public_key.algorithm) ∷ t)
      (ap (λ o. words (encode_of standard o)) empty ∙ no_text))
      ∙ dnskey_without_key (decimal key.flags) (decimal (number key.public_key.algorithm)) key.flags
      (number key.public_key.algorithm) flags_back algorithm_back

pub ruleset key_texts_back = (text_back, keyless_text_back)
