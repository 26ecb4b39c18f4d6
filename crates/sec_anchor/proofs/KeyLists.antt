-- Keys in lists, from a place on.
use Rattle.std.proofs.Common.{◌≡◌, ◌⊎◌, ℕ, ◌+◌, ◌<◌, ◌≤◌, List, [], ◌∷◌, length, get_or, drop, refl, sym, subst, inl}
use Rattle.std.proofs.Common.{inr, IsTrue, ap, ◌∙◌, ◌↔◌, Bool, true, false}
use Rattle.std.specs.Prelude.{map}
use Rattle.std.proofs.lemmas.List.{drop_more, drop_all}
use Rattle.dns_names.specs.Names.{same}
use Rattle.sec_codes.specs.declared.algorithm.Algorithm.{Algorithm}
use Rattle.sec_codes.specs.KeyForms.{Key}
use Rattle.sec_anchor.specs.Anchors.{NamedKey, Anchors, IsAmong, IsNamed, IsTrusted}

module _ {X : Type 0} (f : X → Key) (key : Key) (xs : List X) (i : ℕ) where
  pub among_open : (d : X) → i < length xs → IsAmong key (map f (drop i xs))
      → (f (get_or xs i d) ≡ key) ⊎ IsAmong key (map f (drop (i + 1) xs))
  among_open d h w = subst (λ ys. IsAmong key (map f ys)) (drop_more xs i d h) w

  pub among_here : (d : X) → i < length xs → f (get_or xs i d) ≡ key → IsAmong key (map f (drop i xs))
  among_here d h e = subst (λ ys. IsAmong key (map f ys)) (sym (drop_more xs i d h)) (inl e)

  pub among_there : (d : X) → i < length xs → IsAmong key (map f (drop (i + 1) xs)) → IsAmong key (map f (drop i xs))
  among_there d h w = subst (λ ys. IsAmong key (map f ys)) (sym (drop_more xs i d h)) (inr w)

  pub among_none : length xs ≤ i → IsAmong key (map f (drop i xs)) → ⊥
  among_none h w = subst (λ ys. IsAmong key (map f ys)) (drop_all i xs h) w

module _ {X : Type 0} (f : X → NamedKey) (name : List (List ℕ)) (key : Key) (xs : List X) (i : ℕ) where
  pub named_open : (d : X) → i < length xs → IsNamed name key (map f (drop i xs))
      → (IsTrue (same (f (get_or xs i d)).0 name) × ((f (get_or xs i d)).1 ≡ key))
      ⊎ IsNamed name key (map f (drop (i + 1) xs))
  named_open d h w = subst (λ ys. IsNamed name key (map f ys)) (drop_more xs i d h) w

  pub named_here : (d : X) → i < length xs
      → IsTrue (same (f (get_or xs i d)).0 name) × ((f (get_or xs i d)).1 ≡ key)
      → IsNamed name key (map f (drop i xs))
  named_here d h e = subst (λ ys. IsNamed name key (map f ys)) (sym (drop_more xs i d h)) (inl e)

  pub named_there : (d : X) → i < length xs → IsNamed name key (map f (drop (i + 1) xs))
      → IsNamed name key (map f (drop i xs))
  named_there d h w = subst (λ ys. IsNamed name key (map f ys)) (sym (drop_more xs i d h)) (inr w)

  pub named_none : length xs ≤ i → IsNamed name key (map f (drop i xs)) → ⊥
  named_none h w = subst (λ ys. IsNamed name key (map f ys)) (drop_all i xs h) w

-- a key by its parts
pub key_is : (octets : List ℕ) (algorithm : Algorithm) (key : Key) → octets ≡ key.octets → algorithm ≡ key.algorithm
    → record { octets = octets; algorithm = algorithm } ≡ key
key_is octets algorithm key e f =
    ap (λ (o : List ℕ). the_key o algorithm) e ∙ ap (λ (a : Algorithm). the_key key.octets a) f
  where
    the_key : List ℕ → Algorithm → Key
    the_key o a = record { octets = o; algorithm = a }

pub not_true : (b : Bool) → b ≡ false → IsTrue b → ⊥
not_true true e t = absurd (cc)
not_true false e t = absurd (cc)

-- a name that is not the root has the list of names
pub trusted_named : (all : Anchors) (name : List (List ℕ)) (key : Key) (fact : Type 0) → (name ≡ [] → ⊥)
    → fact ↔ IsNamed name key all.named → fact ↔ IsTrusted all name key
trusted_named all [] key fact other same = absurd (other refl)
trusted_named all (label ∷ name) key fact other same = same

-- a key by its parts, in a list that is the same
pub among_by : {X : Type 0} (f : X → Key) (fact : Type 0) (octets : List ℕ) (algorithm : Algorithm) (key : Key)
    (xs ys : List X) → octets ≡ key.octets → algorithm ≡ key.algorithm → xs ≡ ys
    → fact ↔ IsAmong (record { octets = octets; algorithm = algorithm }) (map f xs) → fact ↔ IsAmong key (map f ys)
among_by f fact octets algorithm key xs ys e a same w =
    subst (λ k. fact ↔ IsAmong k (map f ys)) (key_is octets algorithm key e a)
    (subst (λ zs. fact ↔ IsAmong (record { octets = octets; algorithm = algorithm }) (map f zs)) same w)

pub named_by : {X : Type 0} (f : X → NamedKey) (name : List (List ℕ)) (fact : Type 0) (octets : List ℕ)
    (algorithm : Algorithm) (key : Key) (xs ys : List X) → octets ≡ key.octets → algorithm ≡ key.algorithm → xs ≡ ys
    → fact ↔ IsNamed name (record { octets = octets; algorithm = algorithm }) (map f xs)
    → fact ↔ IsNamed name key (map f ys)
named_by f name fact octets algorithm key xs ys e a same w =
    subst (λ k. fact ↔ IsNamed name k (map f ys)) (key_is octets algorithm key e a)
    (subst (λ zs. fact ↔ IsNamed name (record { octets = octets; algorithm = algorithm }) (map f zs)) same w)
