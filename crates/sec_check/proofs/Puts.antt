-- One more value under a key.
use Rattle.std.proofs.Common.{◌≡◌, refl, ap, ◌∙◌, Bool, true, false, cond, if◌then◌else◌, List, [], ◌∷◌, ◌++◌, Option}
use Rattle.std.proofs.Common.{None, Some}
use Rattle.std.specs.Cmp.{IsTotalOrder}
use Rattle.std.specs.declared.cmp.Ordering.{Ordering}
use Rattle.std.specs.declared.cmp.Ordering.TheVariants.{Less, Equal, Greater}
use Rattle.std.specs.Global.{Vec}
use Rattle.std.specs.Map.{lookup}
use Rattle.std.specs.Ordering.{is_eq}
use Rattle.std.specs.Option.{unwrap_or}
use Rattle.std.specs.BTreeMap.{BTreeMap, get, is_at}
use Rattle.sec_check.specs.Indexes.{items_of, values_at}

lookup_same : {K X : Type 0} (f g : K → Bool) → ((k : K) → f k ≡ g k) → (es : List (K × X)) → lookup f es ≡ lookup g es
lookup_same f g same [] = refl
lookup_same f g same (e ∷ es) = rw (same e.0, lookup_same f g same es) refl

equal_if : (o : Ordering) → is_eq o ≡ true → o ≡ Equal
equal_if Less h = cc
equal_if Equal h = refl
equal_if Greater h = cc

-- an entry's vector, or the empty one that takes its place
items_before : {V : Type 0} (found : Option (Vec V)) (empty : Vec V) → empty.items ≡ []
    → (unwrap_or found empty).items ≡ items_of found
items_before None empty none = none
items_before (Some vec) empty none = refl

module _ {K V : Type 0} {cmp : K → K → Ordering} (total : IsTotalOrder cmp) (by_key : BTreeMap K (Vec V))
    (key : K) where
  -- Equal keys have the same values.
  values_same : (q : K) → is_eq (cmp key q) ≡ true → values_at cmp by_key key ≡ values_at cmp by_key q
  values_same q h = ap items_of (lookup_same (is_at (cmp key)) (is_at (cmp q))
      (λ z. ap is_eq (total.congr key q z (equal_if (cmp key q) h))) by_key.entries)

  -- the values under q behind a put under the key, by the vectors before and behind the push
  pub values_put : (found : Option (Vec V)) → found ≡ get cmp by_key key → (value : V) (empty before behind : Vec V)
      → empty.items ≡ [] → before ≡ unwrap_or found empty → behind.items ≡ before.items ++ value ∷ [] → (q : K)
      → items_of (cond (is_eq (cmp key q)) (Some behind) (get cmp by_key q))
      ≡ (if is_eq (cmp key q) then values_at cmp by_key q ++ value ∷ [] else values_at cmp by_key q)
  values_put found is_found value empty before behind none is_before is_behind q = at (is_eq (cmp key q)) refl
    where
      at : (b : Bool) → is_eq (cmp key q) ≡ b → items_of (cond b (Some behind) (get cmp by_key q))
          ≡ (if b then values_at cmp by_key q ++ value ∷ [] else values_at cmp by_key q)
      at true h = is_behind ∙ ap (λ vs. vs ++ value ∷ []) (ap (λ v. v.items) is_before ∙ items_before found empty none
          ∙ ap items_of is_found ∙ values_same q h)
      at false h = refl
