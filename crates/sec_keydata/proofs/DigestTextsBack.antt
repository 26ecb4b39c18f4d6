-- What is printed of a DS is read as the DS.
use Rattle.std.proofs.Common.{◌≡◌, ◌<◌, ◌≤◌, ◌*◌, ◌/◌, ◌%◌, ◌^◌, ℕ, Bool, true, false, nat_eq, List, [], ◌∷◌, ◌++◌}
use Rattle.std.proofs.Common.{length, take, Result, Ok, Err, Some, None, refl, sym, ap, ◌∙◌, append_assoc, arith, codes}
use Rattle.std.proofs.Common.{append-nil, inl, inr}
use Rattle.std.specs.Char.{is_ascii_digit}
use Rattle.std.specs.Fmt.{decimal}
use Rattle.std.specs.List.{AllByRecursion, slice_index}
use Rattle.std.specs.Option.{ok_or, option_or, option_map}
use Rattle.std.specs.Result.{result_ok}
use Rattle.std.specs.Str.{bytes_eq}
use Rattle.std.specs.Str.Parse.{AllDigits}
use Rattle.std.proofs.lemmas.Bool.{cases_Bool, eqb-true}
use Rattle.std.proofs.lemmas.List.{nil_from_length, take_all}
use Rattle.std.proofs.lemmas.Fmt.{decimal_is_IsNumeral}
use Rattle.hex.specs.Hex.{upper_digits, encode_with, encode_upper, decode_of}
use Rattle.hex.proofs.HexLemmas.{decode_of-encode_upper}
use Rattle.dns_text.specs.HexText.{upper_hex}
use Rattle.dns_wire.specs.Octets.{AreOctets}
use Rattle.dns_text.specs.Words.{is_blank, words, number_below}
use Rattle.sec_codes.specs.declared.algorithm.Algorithm.{Algorithm}
use Rattle.sec_codes.specs.Algorithms.{algorithm_numbered, number}
use Rattle.sec_digest.specs.Digests.{digest_type, digest_number}
use Rattle.sec_keydata.specs.declared.token_error.TokenError.{TokenError}
use Rattle.sec_keydata.specs.declared.token_error.TokenError.TheVariants.{Missing, BadNumber, BadHex}
use Rattle.sec_keydata.specs.declared.token_error.TokenField.TheVariants.{Digest}
use Rattle.sec_keydata.specs.DsData.{DsData, DsIsByNumber, ds_text}
use Rattle.sec_keydata.specs.Tokens.{number_in, mnemonics, algorithm_beside, algorithm_in, hex_octets, ds_in, token_ds}
use Rattle.sec_keydata.proofs.TextsBack.{at_place, NoBlank, no_blanks, word_before, word_alone, digit_is}
use Rattle.sec_keydata.proofs.TextsBack.{decimal_no_blank, decimal_some, number_below-decimal, number_back}

-- the words of a text as a DS is printed
four_words : (x y z text : List ℕ) → NoBlank x → 0 < length x → NoBlank y → 0 < length y → NoBlank z → 0 < length z
    → words (x ++ codes " " ++ y ++ codes " " ++ z ++ codes " " ++ text) ≡ x ∷ y ∷ z ∷ words text
four_words x y z text clear_x some_x clear_y some_y clear_z some_z =
    let apart : x ++ codes " " ++ y ++ codes " " ++ z ++ codes " " ++ text
    ≡ x ++ 32 ∷ (y ++ 32 ∷ (z ++ 32 ∷ text)) = simp append_assoc in
    ap words apart ∙ (word_before x 32 (y ++ 32 ∷ (z ++ 32 ∷ text)) clear_x some_x refl
    ∙ ap (λ t. x ∷ t) (word_before y 32 (z ++ 32 ∷ text) clear_y some_y refl
    ∙ ap (λ t. y ∷ t) (word_before z 32 text clear_z some_z refl)))

-- ---- algorithms

begins_with_digit : List ℕ → Bool
begins_with_digit [] = false
begins_with_digit (c ∷ _) = is_ascii_digit c

differs : (c : ℕ) (cs text : List ℕ) → is_ascii_digit c ≡ true → begins_with_digit text ≡ false
    → bytes_eq (c ∷ cs) text ≡ false
unfolding begins_with_digit
differs c cs [] is other = refl
differs c cs (x ∷ text) is other = elim (cases_Bool (nat_eq c x)) [
  | inl same ↦ absurd (let digit : false ≡ true = sym other ∙ (ap is_ascii_digit (sym (eqb-true c x same)) ∙ is) in cc)
  | inr not_same ↦ rw not_same refl
]

-- no mnemonic begins with a digit
unnamed_in : (table : List (List ℕ × Algorithm)) (c : ℕ) (cs : List ℕ) → is_ascii_digit c ≡ true
    → AllByRecursion (λ entry. begins_with_digit entry.0 ≡ false) table → algorithm_beside table (c ∷ cs) ≡ None
unnamed_in [] c cs is others = refl
unnamed_in (entry ∷ table) c cs is others = rw (differs c cs entry.0 is others.0) (unnamed_in table c cs is others.1)

letters : AllByRecursion (λ (entry : List ℕ × Algorithm). begins_with_digit entry.0 ≡ false) mnemonics
unfolding begins_with_digit
letters = (refl, (refl, (refl, (refl, (refl, (refl, (refl, (refl, tt))))))))

unnamed : (digits : List ℕ) → 0 < length digits → AllDigits 10 digits → algorithm_beside mnemonics digits ≡ None
unnamed [] some all = absurd (omega (arith, some))
unnamed (c ∷ digits) some all = unnamed_in mnemonics c digits (digit_is c all.0) letters

algorithm_back : (n : ℕ) → n < 2 ^ 8 → algorithm_in (decimal n) ≡ Ok (algorithm_numbered n)
algorithm_back n few =
    let numeral = decimal_is_IsNumeral n (omega (arith, few)) in
    let no_name : algorithm_beside mnemonics (decimal n) ≡ None = unnamed (decimal n) numeral.0.0 numeral.0.1 in
    let value : number_below (2 ^ 8) (decimal n) ≡ Some n = number_below-decimal (2 ^ 8) n few (omega (arith, few)) in
    λ i. ok_or (option_or (no_name i) (option_map algorithm_numbered (value i))) BadNumber

-- ---- digests

upper_hex-encode : (octets : List ℕ) → upper_hex octets ≡ encode_upper octets
unfolding encode_with
upper_hex-encode [] = refl
upper_hex-encode (x ∷ octets) = ap (λ t. slice_index upper_digits (x / 16) ∷ slice_index upper_digits (x % 16) ∷ t)
    (upper_hex-encode octets)

length-upper_hex : (octets : List ℕ) → length (upper_hex octets) ≡ 2 * length octets
length-upper_hex [] = refl
length-upper_hex (x ∷ octets) = omega (arith, length-upper_hex octets)

digit : (k : ℕ) → is_blank (slice_index upper_digits k) ≡ false
digit k = at_place (λ octet. is_blank octet ≡ false) upper_digits (no_blanks upper_digits refl) refl k

hex_no_blank : (octets : List ℕ) → NoBlank (upper_hex octets)
hex_no_blank [] = tt
hex_no_blank (x ∷ octets) = (digit (x / 16), (digit (x % 16), hex_no_blank octets))

hex_back : (octets : List ℕ) → AreOctets octets → hex_octets (upper_hex octets) ≡ Ok octets
hex_back octets are =
    let pairs : length (upper_hex octets) ≤ length (upper_hex octets) / 2 * 2 = omega
    (arith, length-upper_hex octets) in
    let whole : take (length (upper_hex octets) / 2 * 2) (upper_hex octets)
    ≡ encode_upper octets = take_all (length (upper_hex octets) / 2 * 2) (upper_hex octets) pairs
    ∙ upper_hex-encode octets in
    let back : decode_of (encode_upper octets) ≡ Ok octets = decode_of-encode_upper octets
    (at_place (λ octet. octet < 256) octets are (omega arith)) in
    ap (λ t. ok_or (result_ok (decode_of t)) BadHex) whole ∙ ap (λ r. ok_or (result_ok r) BadHex) back

-- ---- DS

ds_of : (x y z text : List ℕ) (tag n kind : ℕ) (octets : List ℕ) → number_in (2 ^ 16) x ≡ Ok tag
    → algorithm_in y ≡ Ok (algorithm_numbered n) → number_in (2 ^ 8) z ≡ Ok kind → hex_octets text ≡ Ok octets
    → ds_in (x ∷ y ∷ z ∷ text ∷ []) ≡ Ok (record {
      key_tag = tag;
      algorithm = algorithm_numbered n;
      digest_type =
          digest_type kind;
      digest = octets;
    })
ds_of x y z text tag n kind octets a b c d = rw (a, b, c, append-nil text, d) refl

ds_without_digest : (x y z : List ℕ) (tag n kind : ℕ) → number_in (2 ^ 16) x ≡ Ok tag
    → algorithm_in y ≡ Ok (algorithm_numbered n) → number_in (2 ^ 8) z ≡ Ok kind
    → ds_in (x ∷ y ∷ z ∷ []) ≡ Err (Missing Digest)
ds_without_digest x y z tag n kind a b c = rw (a, b, c) refl

module _ (ds : DsData) (small : ds.key_tag < 2 ^ 16) (few : number ds.algorithm < 2 ^ 8)
    (fewer : digest_number ds.digest_type < 2 ^ 8) where
  words_are : words (ds_text ds) ≡ decimal ds.key_tag ∷ decimal (number ds.algorithm)
      ∷ decimal (digest_number ds.digest_type) ∷ words (upper_hex ds.digest)
  words_are =
      let few' : number ds.algorithm < 2 ^ 16 = omega (arith, few) in
      let fewer' : digest_number ds.digest_type < 2 ^ 16 = omega (arith, fewer) in
      four_words (decimal ds.key_tag) (decimal (number ds.algorithm)) (decimal (digest_number ds.digest_type))
      (upper_hex ds.digest)
      (decimal_no_blank ds.key_tag small) (decimal_some ds.key_tag small) (decimal_no_blank (number ds.algorithm) few')
      (decimal_some (number ds.algorithm) few')
      (decimal_no_blank (digest_number ds.digest_type) fewer') (decimal_some (digest_number ds.digest_type) fewer')

  tag_back : number_in (2 ^ 16) (decimal ds.key_tag) ≡ Ok ds.key_tag
  tag_back = number_back (2 ^ 16) ds.key_tag small small

  kind_back : number_in (2 ^ 8) (decimal (digest_number ds.digest_type)) ≡ Ok (digest_number ds.digest_type)
  kind_back = number_back (2 ^ 8) (digest_number ds.digest_type) fewer (omega (arith, fewer))

  pub digest_text_back : DsIsByNumber ds → AreOctets ds.digest → 0 < length ds.digest → token_ds (ds_text ds) ≡ Ok ds
  digest_text_back named are some =
      let text : List ℕ = upper_hex ds.digest in
      let alone : words text ≡ text ∷ [] = word_alone text (hex_no_blank ds.digest)
      (omega (arith, some, length-upper_hex ds.digest)) in
      ap ds_in (words_are ∙ ap (λ t. decimal ds.key_tag ∷ decimal (number ds.algorithm)
      ∷ decimal (digest_number ds.digest_type) ∷ t) alone)
      ∙ (ds_of (decimal ds.key_tag) (decimal (number ds.algorithm))
      (decimal (digest_number ds.digest_type)) text ds.key_tag (number ds.algorithm)
      (digest_number ds.digest_type) ds.digest
      tag_back (algorithm_back (number ds.algorithm) few) kind_back (hex_back ds.digest are)
      ∙ (λ i. let ok : Result DsData TokenError = Ok
      (record {
        key_tag = ds.key_tag;
        algorithm = sym named.algorithm i;
        digest_type = sym named.digest_type i;
        digest = ds.digest;
      }) in ok))

  pub empty_digest_text_back : length ds.digest ≡ 0 → token_ds (ds_text ds) ≡ Err (Missing Digest)
  empty_digest_text_back none =
      let empty : ds.digest ≡ [] = nil_from_length ds.digest none in
      ap ds_in (words_are ∙ ap (λ t. decimal ds.key_tag ∷ decimal (number ds.algorithm)
      ∷ decimal (digest_number ds.digest_type) ∷ t) (ap (λ o. words (upper_hex o)) empty))
      ∙ ds_without_digest (decimal ds.key_tag) (decimal (number ds.algorithm))
      (decimal (digest_number ds.digest_type)) ds.key_tag (number ds.algorithm) (digest_number ds.digest_type)
      tag_back (algorithm_back (number ds.algorithm) few) kind_back

pub ruleset digest_texts_back = (digest_text_back, empty_digest_text_back)
