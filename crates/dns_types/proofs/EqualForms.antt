-- Forms are equal where their sets have the same types.
use Rattle.std.proofs.Common.{◌≡◌, ◌↔◌, ℕ, ◌+◌, ◌-◌, ◌*◌, ◌^◌, ◌<◌, ◌≤◌, Bool, true, cond, All, Contains, List, get_or}
use Rattle.std.proofs.Common.{sum, refl, sym, ap, ◌∙◌, subst, arith}
use Rattle.std.specs.Prelude.{nat_eq}
use Rattle.std.specs.Bool.{Decides}
use Rattle.std.proofs.lemmas.Bool.Decides.{Decides-eqb, same_from_decides}
use Rattle.std.proofs.lemmas.List.Elements.{All-contains}
use Rattle.std.proofs.lemmas.List.Folds.{Any-from_list_any, list_any_at}
use Rattle.dns_types.specs.TypeSets.{has_type, is_one_of, octet_of, window_bits, trimmed, block_unless_empty}
use Rattle.dns_types.specs.TypeSets.{window_octets, form_of}
use Rattle.dns_types.proofs.TypeBits.{map_agree_within, flat_map_agree_within}
use Rattle.dns_types.proofs.FormLaws.{form_is, form_has}

module _ (has other : ℕ → Bool) where
  module _ (same : (t : ℕ) → t < 2 ^ 16 → has t ≡ other t) where
    same_octet : (t : ℕ) → t + 8 ≤ 2 ^ 16 → octet_of has t ≡ octet_of other t
    unfolding octet_of
    same_octet t within = ap sum (map_agree_within (λ b. cond (has (t + b)) (2 ^ (7 - b)) 0)
        (λ b. cond (other (t + b)) (2 ^ (7 - b)) 0) 0 8
        (λ b from below. ap (λ c. cond c (2 ^ (7 - b)) 0) (same (t + b) (omega arith))))

    same_window : (w : ℕ) → w < 256 → window_octets has w ≡ window_octets other w
    unfolding window_octets window_bits
    same_window w below =
        ap (λ bits. block_unless_empty w (trimmed bits))
        (map_agree_within (λ i. octet_of has (256 * w + 8 * i)) (λ i. octet_of other (256 * w + 8 * i)) 0 32
        (λ i from short. same_octet (256 * w + 8 * i) (omega arith)))

    same_form_by : (n : ℕ) → n ≡ 256 → form_of has ≡ form_of other
    same_form_by n e = form_is has n e ∙ flat_map_agree_within (window_octets has) (window_octets other) 0 n
        (λ w from below. same_window w (omega arith)) ∙ sym (form_is other n e)

    pub same_form : form_of has ≡ form_of other
    same_form = same_form_by 256 refl

  pub sets_of_forms : (form_of has ≡ form_of other) ↔ ((t : ℕ) → t < 2 ^ 16 → has t ≡ other t)
  sets_of_forms = (
    λ e t below. sym (form_has has t below) ∙ ap (λ x. has_type x t) e
        ∙ form_has other t below,
    same_form,
  )

-- ---- sets that are listed

pub one_of_decides : (xs : List ℕ) (t : ℕ) → Decides (is_one_of xs t) (Contains xs t)
one_of_decides xs t = (there, back)
  where
    there : is_one_of xs t ≡ true → Contains xs t
    there h = let a = Any-from_list_any (nat_eq t) xs h in let same : t ≡ a.1 = (Decides-eqb t a.1).0 a.4 in
        subst (Contains xs) (sym same) (a.0, a.2, a.3)

    back : Contains xs t → is_one_of xs t ≡ true
    back c = list_any_at (nat_eq t) xs c.0 t c.1 ((Decides-eqb t (get_or xs c.0 t)).1 (sym c.2))

module _ (xs ys : List ℕ) (small : All (λ t. t < 2 ^ 16) xs) (few : All (λ t. t < 2 ^ 16) ys) where
  members : form_of (is_one_of xs) ≡ form_of (is_one_of ys) → (t : ℕ) → Contains xs t ↔ Contains ys t
  members e t = (there, back)
    where
      same : t < 2 ^ 16 → is_one_of xs t ≡ is_one_of ys t
      same = (sets_of_forms (is_one_of xs) (is_one_of ys)).0 e t

      there : Contains xs t → Contains ys t
      there c = (one_of_decides ys t).0 (sym (same (All-contains (λ x. x < 2 ^ 16) xs t small c))
          ∙ (one_of_decides xs t).1 c)

      back : Contains ys t → Contains xs t
      back c = (one_of_decides xs t).0 (same (All-contains (λ x. x < 2 ^ 16) ys t few c) ∙ (one_of_decides ys t).1 c)

  same_members : ((t : ℕ) → Contains xs t ↔ Contains ys t) → form_of (is_one_of xs) ≡ form_of (is_one_of ys)
  same_members h =
      same_form (is_one_of xs) (is_one_of ys) (λ t below. same_from_decides (is_one_of xs t) (is_one_of ys t)
      (one_of_decides xs t) (
        (λ k. (h t).1 ((one_of_decides ys t).0 k)),
        (λ c. (one_of_decides ys t).1 ((h t).0 c)),
      ))

  pub lists_of_forms : (form_of (is_one_of xs) ≡ form_of (is_one_of ys)) ↔ ((t : ℕ) → Contains xs t ↔ Contains ys t)
  lists_of_forms = (members, same_members)
