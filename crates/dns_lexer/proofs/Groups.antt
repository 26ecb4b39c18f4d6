-- The groups of a time to live.
use Rattle.std.proofs.Common.{◌≡◌, ℕ, zero, suc, ◌+◌, ◌<◌, ◌≤◌, List, [], ◌∷◌, length, drop, refl, sym}
use Rattle.std.proofs.Common.{ap, ◌∙◌, arith, nat_lt, cond, inl, inr, Option, Some, None}
use Rattle.std.specs.Option.{option_and_then, option_map}
use Rattle.std.proofs.lemmas.Bool.{cases_Bool}
use Rattle.std.proofs.lemmas.Bool.Decides.{nat_tests}
use Rattle.std.proofs.lemmas.List.{nil_from_length}
use Rattle.dns_lexer.specs.Ttls.{digit_count, first_group, group_sum}
use Rattle.dns_lexer.proofs.Units.{drop_none}

-- a number below a limit
abbrev pub below : ℕ → Option ℕ → Option ℕ
below limit = option_and_then (λ n. cond (nat_lt n limit) (Some n) None)

groups-skipped : (n : ℕ) (xs : List ℕ) → group_sum n xs ≡ group_sum 0 (drop n xs)
unfolding group_sum
groups-skipped zero xs = sym (ap (group_sum 0) (drop_none xs))
groups-skipped (suc n) [] = refl
groups-skipped (suc n) (c ∷ xs) = groups-skipped n xs

-- the sum of a group's seconds and those behind it
abbrev pub with_group : Option ℕ → Option ℕ → Option ℕ
with_group group others = option_and_then (λ seconds. option_map (λ n. seconds + n) others) group

pub group_first : (xs : List ℕ) → 0 < length xs
    → group_sum 0 xs ≡ with_group (first_group xs) (group_sum 0 (drop (digit_count xs + 1) xs))
unfolding group_sum
group_first [] some = absurd (omega arith)
group_first (c ∷ xs) some =
    let same : suc (digit_count (c ∷ xs)) ≡ digit_count (c ∷ xs) + 1 = omega arith in
    ap (with_group (first_group (c ∷ xs))) (groups-skipped (digit_count (c ∷ xs)) xs
    ∙ ap (λ n. group_sum 0 (drop n (c ∷ xs))) same)

pub group_none : group_sum 0 [] ≡ Some 0
unfolding group_sum
group_none = refl

map_zero : (o : Option ℕ) → option_map (λ n. 0 + n) o ≡ o
map_zero (Some n) = ap Some (omega arith)
map_zero None = refl

-- before the first group
pub groups_begin : (xs : List ℕ) → option_map (λ n. 0 + n) (group_sum 0 xs) ≡ group_sum 0 xs
groups_begin xs = map_zero (group_sum 0 xs)

below_some : (limit n : ℕ) (o : Option ℕ) → Some n ≡ below limit o → (o ≡ Some n) × (n < limit)
below_some limit n (Some m) e =
    elim (cases_Bool (nat_lt m limit)) [
      | inl t ↦ let is : Some n ≡ Some m = e ∙ ap (λ b. cond b (Some m) None) t in (sym is, grind (arith, nat_tests))
      | inr f ↦ absurd (let is : Some n ≡ None = e ∙ ap (λ b. cond b (Some m) None) f in cc)
    ]
below_some limit n None e = absurd (cc)

too_large : (limit n : ℕ) → limit ≤ n → below limit (Some n) ≡ None
too_large limit n h = grind (arith, nat_tests)

fits : (limit n : ℕ) → n < limit → below limit (Some n) ≡ Some n
fits limit n h = grind (arith, nat_tests)

none_from_group : (limit sum : ℕ) (group others : Option ℕ) → None ≡ below limit group
    → below limit (option_map (λ n. sum + n) (with_group group others)) ≡ None
none_from_group limit sum None others e = refl
none_from_group limit sum (Some s) None e = refl
none_from_group limit sum (Some s) (Some n) e =
    elim (cases_Bool (nat_lt s limit)) [
      | inl t ↦ absurd (let is : None ≡ Some s = e ∙ ap (λ b. cond b (Some s) None) t in cc)
      | inr f ↦ too_large limit (sum + (s + n)) (grind (arith, nat_tests))
    ]

none_from_sum : (limit sum s : ℕ) (others : Option ℕ) → limit ≤ sum + s
    → below limit (option_map (λ n. sum + n) (with_group (Some s) others)) ≡ None
none_from_sum limit sum s None h = refl
none_from_sum limit sum s (Some n) h = too_large limit (sum + (s + n)) (omega arith)

moved : (sum s : ℕ) (others : Option ℕ)
    → option_map (λ n. sum + n) (with_group (Some s) others) ≡ option_map (λ n. sum + s + n) others
moved sum s None = refl
moved sum s (Some n) = ap Some (omega arith)

module _ (limit sum : ℕ) (text xs : List ℕ)
    (met : option_map (λ n. sum + n) (group_sum 0 xs) ≡ group_sum 0 text) where
  opened : 0 < length xs → group_sum 0 text
      ≡ option_map (λ n. sum + n) (with_group (first_group xs) (group_sum 0 (drop (digit_count xs + 1) xs)))
  opened some = sym met ∙ ap (option_map (λ n. sum + n)) (group_first xs some)

  -- a group that is none, or too large
  pub groups_fail : 0 < length xs → None ≡ below limit (first_group xs) → None ≡ below limit (group_sum 0 text)
  groups_fail some e =
      sym (ap (below limit) (opened some) ∙ none_from_group limit sum (first_group xs) _ e)

  -- a sum that is too large
  pub groups_large : (s : ℕ) → 0 < length xs → Some s ≡ below limit (first_group xs) → limit ≤ sum + s
      → None ≡ below limit (group_sum 0 text)
  groups_large s some e h =
      let is = (below_some limit s (first_group xs) e).0 in
      let others = group_sum 0 (drop (digit_count xs + 1) xs) in
      sym (ap (below limit) (opened some ∙ ap (λ g. option_map (λ n. sum + n) (with_group g others)) is)
      ∙ none_from_sum limit sum s others h)

  -- one group more
  pub groups_more : (s : ℕ) (rest : List ℕ) → 0 < length xs → Some s ≡ below limit (first_group xs)
      → rest ≡ drop (digit_count xs + 1) xs
      → option_map (λ n. sum + s + n) (group_sum 0 rest) ≡ group_sum 0 text
  groups_more s rest some e r =
      let is = (below_some limit s (first_group xs) e).0 in
      let others = group_sum 0 (drop (digit_count xs + 1) xs) in
      sym (opened some ∙ (ap (λ g. option_map (λ n. sum + n) (with_group g others)) is ∙ (moved sum s others
      ∙ ap (λ t. option_map (λ n. sum + s + n) (group_sum 0 t)) (sym r))))

  -- the end of the text
  pub groups_end : length xs ≡ 0 → sum < limit → Some sum ≡ below limit (group_sum 0 text)
  groups_end none h =
      let nil = ap (λ t. option_map (λ n. sum + n) (group_sum 0 t)) (nil_from_length xs none) in
      let last = ap (option_map (λ n. sum + n)) group_none in
      let whole : group_sum 0 text ≡ Some sum = sym met ∙ (nil ∙ (last ∙ ap Some (omega arith))) in
      sym (ap (below limit) whole ∙ fits limit sum h)
