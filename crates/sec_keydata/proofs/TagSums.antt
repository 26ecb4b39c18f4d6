-- Sums of octets at even and at odd places.
use Rattle.std.proofs.Common.{◌≡◌, ◌≤◌, ◌<◌, ℕ, zero, suc, Bool, true, false, ◌+◌, ◌*◌, ◌%◌, cond, eqb, List, [], ◌∷◌}
use Rattle.std.proofs.Common.{◌++◌, length, take, get_or, Result, Ok, ap, sym, ◌∙◌, add-one, arith}
use Rattle.std.proofs.lemmas.List.{take_all}
use Rattle.std.specs.List.{sum}
use Rattle.std.proofs.lemmas.List.Sums.{sum_by-cons}
use Rattle.std.specs.Prelude.{nat_lt}
use Rattle.sec_keydata.specs.declared.key_data_error.KeyDataError.{KeyDataError}
use Rattle.sec_keydata.specs.declared.dnskey_fields.TheConstants.{LONGEST_KEY}
use Rattle.sec_keydata.specs.PublicKeyFields.{PublicKeyFields}
use Rattle.sec_keydata.specs.KeyTags.{even_places, odd_places, octet_sum, tag_of_sum, key_octets, fields_tag}

-- what an octet at a place counts for
abbrev pub weight : ℕ → ℕ
weight place = cond (eqb (place % 2) 0) 256 1

-- the sum of the octets before a place
pub record HasSum (octets : List ℕ) (place so_many : ℕ) : Type 0 where
  pub is : so_many ≡ octet_sum (take place octets)
  pub at_most : so_many ≤ 65280 * place

-- two octets more in front
sum-cons : (a b : ℕ) (octets : List ℕ) → octet_sum (a ∷ b ∷ octets) ≡ 256 * a + b + octet_sum octets
sum-cons a b octets =
    let even : sum (even_places (a ∷ b ∷ octets)) ≡ a
    + sum (even_places octets) = sum_by-cons (λ x. x) a (even_places octets) in
    let odd : sum (odd_places (a ∷ b ∷ octets)) ≡ b
    + sum (odd_places octets) = sum_by-cons (λ x. x) b (odd_places octets) in
    omega (arith, even, odd)

-- one octet more at the end
sum-take : (octets : List ℕ) (place : ℕ) → place < length octets
    → octet_sum (take (suc place) octets) ≡ octet_sum (take place octets) + weight place * get_or octets place 0
sum-take [] place lt = absurd (omega (arith, lt))
sum-take (a ∷ []) zero lt = omega arith
sum-take (a ∷ []) (suc place) lt = absurd (omega (arith, lt))
sum-take (a ∷ b ∷ octets) zero lt = omega arith
sum-take (a ∷ b ∷ octets) (suc zero) lt = omega arith
sum-take (a ∷ b ∷ octets) (suc (suc place)) lt =
    let same : suc (suc place) % 2 ≡ place % 2 = omega arith in
    let before = sum-take octets place (omega (arith, lt)) in
    sum-cons a b (take (suc place) octets) ∙ rw (sum-cons a b (take place octets), same) (omega (arith, before))

weighed : (even : Bool) (octet : ℕ) → octet < 256 → cond even 256 1 * octet ≤ 65280
weighed true octet small = omega arith
weighed false octet small = omega arith

pub sum_more : (octets : List ℕ) (place so_many more : ℕ) → HasSum octets place so_many → place < length octets
    → get_or octets place 0 < 256 → more ≡ so_many + weight place * get_or octets place 0
    → HasSum octets (place + 1) more
sum_more octets place so_many more so_far lt small is = record {
  is = is ∙ (ap (λ s. s + weight place * get_or octets place 0) so_far.is
      ∙ (sym (sum-take octets place lt) ∙ ap (λ k. octet_sum (take k octets)) (sym (add-one place))));
  at_most = omega (arith, so_far.at_most, weighed (eqb (place % 2) 0) (get_or octets place 0) small);
}

-- all octets
pub sum_all : (octets : List ℕ) (place so_many : ℕ) → HasSum octets place so_many → length octets ≤ place
    → so_many ≡ octet_sum octets
sum_all octets place so_many so_far all = so_far.is ∙ ap octet_sum (take_all place octets all)

-- octets behind an even number of octets
sum-append : (front octets : List ℕ) → length front % 2 ≡ 0
    → octet_sum (front ++ octets) ≡ octet_sum front + octet_sum octets
sum-append [] octets even = omega arith
sum-append (a ∷ []) octets even = absurd (omega (arith, even))
sum-append (a ∷ b ∷ front) octets even =
    let same : suc (suc (length front)) % 2 ≡ length front % 2 = omega arith in
    let behind = sum-append front octets (sym same ∙ even) in
    sum-cons a b (front ++ octets) ∙ rw (sum-cons a b front) (omega (arith, behind))

-- the tag of a key from the sums of the four octets before it and of its own octets
pub tag_is : (key : PublicKeyFields) (head : List ℕ) (tag so_many more : ℕ)
    → nat_lt LONGEST_KEY (length key.octets) ≡ false → length head ≡ 4 → head ++ key.octets ≡ key_octets key
    → so_many ≡ octet_sum head → more ≡ octet_sum key.octets → tag ≡ tag_of_sum (so_many + more)
    → Ok tag ≡ fields_tag key
tag_is key head tag so_many more short four whole first behind is =
    let even : length head % 2 ≡ 0 = ap (λ n. n % 2) four in
    let both : so_many + more ≡ octet_sum (key_octets key) = omega
    (arith, first, behind, sum-append head key.octets even, ap octet_sum whole) in
    rw short (ap (λ n. let ok : Result ℕ KeyDataError = Ok n in ok) (is ∙ ap tag_of_sum both))
