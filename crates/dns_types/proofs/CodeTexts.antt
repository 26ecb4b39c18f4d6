-- The text of a type or class names it.
use Rattle.std.proofs.Common.{Bool, true, false, ◌≡◌, ℕ, ◌<◌, ◌^◌, List, [], ◌∷◌, ◌++◌, Option, Some, None, refl, sym}
use Rattle.std.proofs.Common.{ap, ◌∙◌, arith, rules}
use Rattle.std.specs.Prelude.{codes, nat_eq, if◌then◌else◌}
use Rattle.std.specs.Fmt.{decimal}
use Rattle.std.specs.List.{AllByRecursion}
use Rattle.std.specs.Option.{option_or}
use Rattle.std.proofs.lemmas.Bool.Decides.{Decides-eqb}
use Rattle.dns_text.specs.Words.{number_below}
use Rattle.dns_text.proofs.Numbers.{number_below-decimal}
use Rattle.dns_wire.specs.Lookup.{lookup}
use Rattle.dns_types.specs.Codes.{type_mnemonics, class_mnemonics, number_named, number_behind, code_text}
use Rattle.dns_types.specs.Codes.{type_text, class_text, type_of, class_of}

some_is : (x y : List ℕ) → ◌≡◌ {A = Option (List ℕ)} (Some x) (Some y) → x ≡ y
some_is x y h = cc

-- each mnemonic of the rows names its number
abbrev NameThemselves : List (ℕ × List ℕ) → List (ℕ × List ℕ) → Type 0
NameThemselves table = AllByRecursion (λ entry. number_named table entry.1 ≡ Some entry.0)

-- a mnemonic that is found names the number
found : (table rows : List (ℕ × List ℕ)) → NameThemselves table rows → (n : ℕ) (m : List ℕ) → lookup rows n ≡ Some m
    → number_named table m ≡ Some n
found table [] h n m e = absurd (cc)
found table (entry ∷ rows) h n m e = at (found table rows h.1 n m) (nat_eq entry.0 n) refl e
  where
    at : (lookup rows n ≡ Some m → number_named table m ≡ Some n) → (b : Bool) → nat_eq entry.0 n ≡ b
        → (if b then Some entry.1 else lookup rows n) ≡ Some m → number_named table m ≡ Some n
    at behind true t e = ap (number_named table) (sym (some_is entry.1 m e)) ∙ h.0
        ∙ ap (λ k. Some k) ((Decides-eqb entry.0 n).0 t)
    at behind false t e = behind e

module _ (table : List (ℕ × List ℕ)) (word : List ℕ) (n : ℕ) (small : n < 2 ^ 16) (h : NameThemselves table table)
    (other : number_named table (word ++ decimal n) ≡ None)
    (behind : number_behind word (word ++ decimal n) ≡ number_below (2 ^ 16) (decimal n)) where
  named : (o : Option (List ℕ)) → lookup table n ≡ o
      → option_or (number_named table (code_text word n o)) (number_behind word (code_text word n o)) ≡ Some n
  named (Some m) e = rw (found table table h n m e) refl
  named None e = rw (other, behind, number_below-decimal (2 ^ 16) n small (omega (arith, small))) refl

  pub code_is_named : option_or (number_named table (code_text word n (lookup table n)))
      (number_behind word (code_text word n (lookup table n))) ≡ Some n
  code_is_named = named (lookup table n) refl

pub type_is_named : (n : ℕ) → n < 2 ^ 16 → type_of (type_text n) ≡ Some n
type_is_named n small = code_is_named type_mnemonics (codes "TYPE") n small (search rules) refl refl

pub class_is_named : (n : ℕ) → n < 2 ^ 16 → class_of (class_text n) ≡ Some n
class_is_named n small = code_is_named class_mnemonics (codes "CLASS") n small (search rules) refl refl
