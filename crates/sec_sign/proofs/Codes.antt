-- Octets of which none begin others: what stands before them tells where they end.
use Rattle.std.proofs.Common.{◌≡◌, ℕ, ◌<◌, ◌^◌, List, ◌++◌, length, take, drop, refl, sym, ap, ◌∙◌}
use Rattle.std.proofs.Common.{arith}
use Rattle.std.proofs.lemmas.List.{take_at, drop_at}
use Rattle.std.proofs.lemmas.Nat.{from_be_bytes-to_be_bytes_2, from_be_bytes-to_be_bytes_4}
use Rattle.std.specs.Int.{w8, w16, w32, to_be_bytes, from_be_bytes}
use Rattle.dns_names.specs.Names.{IsName, Same, low, wire}
use Rattle.dns_names.specs.NameLaws.{low_name, same_from_wire}

-- two strings begin with a and b, and go on alike
pub record Parts (a b s t : List ℕ) : Type 0 where
  pub first : a ≡ b
  pub behind : s ≡ t

-- equal strings whose first parts are as long
pub parts : (a b s t : List ℕ) → length a ≡ length b → a ++ s ≡ b ++ t → Parts a b s t
parts a b s t long same = record {
  first = sym (take_at a s (length a) refl) ∙ ap (take (length a)) same ∙ take_at b t (length a) (sym long);
  behind = sym (drop_at a s (length a) refl) ∙ ap (drop (length a)) same ∙ drop_at b t (length a) (sym long);
}

one_same : (n m : ℕ) → n < 2 ^ 8 → m < 2 ^ 8 → to_be_bytes w8 n ≡ to_be_bytes w8 m → n ≡ m
one_same n m le ge same = sym (value n le) ∙ ap (from_be_bytes w8) same ∙ value m ge
  where
    value : (n : ℕ) → n < 2 ^ 8 → from_be_bytes w8 (to_be_bytes w8 n) ≡ n
    value n lt = grind arith

two_same : (n m : ℕ) → n < 2 ^ 16 → m < 2 ^ 16 → to_be_bytes w16 n ≡ to_be_bytes w16 m → n ≡ m
two_same n m le ge same =
    sym (from_be_bytes-to_be_bytes_2 n le) ∙ ap (from_be_bytes w16) same ∙ from_be_bytes-to_be_bytes_2 m ge

four_same : (n m : ℕ) → n < 2 ^ 32 → m < 2 ^ 32 → to_be_bytes w32 n ≡ to_be_bytes w32 m → n ≡ m
four_same n m le ge same =
    sym (from_be_bytes-to_be_bytes_4 n le) ∙ ap (from_be_bytes w32) same ∙ from_be_bytes-to_be_bytes_4 m ge

-- two numbers, and what stands behind them
pub record Numbers (n m : ℕ) (s t : List ℕ) : Type 0 where
  pub first : n ≡ m
  pub behind : s ≡ t

pub one : (n m : ℕ) (s t : List ℕ) → n < 2 ^ 8 → m < 2 ^ 8
    → to_be_bytes w8 n ++ s ≡ to_be_bytes w8 m ++ t → Numbers n m s t
one n m s t le ge same =
    let p = parts (to_be_bytes w8 n) (to_be_bytes w8 m) s t refl same in
    record { first = one_same n m le ge p.first; behind = p.behind }

pub two : (n m : ℕ) (s t : List ℕ) → n < 2 ^ 16 → m < 2 ^ 16
    → to_be_bytes w16 n ++ s ≡ to_be_bytes w16 m ++ t → Numbers n m s t
two n m s t le ge same =
    let p = parts (to_be_bytes w16 n) (to_be_bytes w16 m) s t refl same in
    record { first = two_same n m le ge p.first; behind = p.behind }

pub four : (n m : ℕ) (s t : List ℕ) → n < 2 ^ 32 → m < 2 ^ 32
    → to_be_bytes w32 n ++ s ≡ to_be_bytes w32 m ++ t → Numbers n m s t
four n m s t le ge same =
    let p = parts (to_be_bytes w32 n) (to_be_bytes w32 m) s t refl same in
    record { first = four_same n m le ge p.first; behind = p.behind }

-- two names lowered, and what stands behind them
pub record Lowered (n z : List (List ℕ)) (s t : List ℕ) : Type 0 where
  pub first : Same n z
  pub behind : s ≡ t

pub name : (n z : List (List ℕ)) (s t : List ℕ) → IsName n → IsName z → wire (low n) ++ s ≡ wire (low z) ++ t
    → Lowered n z s t
name n z s t is other same =
    let alike : low n ≡ low z = same_from_wire (low n) (low z) s t (low_name n is).each (low_name z other).each same in
    record {
      first = alike;
      behind = (parts (wire (low n)) (wire (low z)) s t (ap (λ l. length (wire l)) alike) same).behind;
    }
