-- Octet strings in ascending order (RFC 4034 6.3).
use Rattle.std.specs.Prelude.{Bool, ◌≡◌, ℕ, List, [], fold, nat_eq}
use Rattle.std.specs.BTreeSet.{insert_key}
use Rattle.std.specs.Ordering.{nat_cmp}
use Rattle.std.specs.declared.cmp.Ordering.{Ordering}
use Rattle.std.specs.Cmp.Lexicographic.{pointwise, slice_cmp}
use Rattle.std.specs.List.{list_any}
use Rattle.std.specs.List.Sorted.{IsStrictlySortedBy}

-- as unsigned octets from the left on, a string before those that it begins
abbrev pub octets_cmp : List ℕ → List ℕ → Ordering
octets_cmp = slice_cmp nat_cmp

-- the strings in strictly ascending order: each is put in its place in turn, unless it is there already
unfoldable pub ascending : List (List ℕ) → List (List ℕ)
ascending strings = fold (insert_key octets_cmp) [] strings

-- each string comes before those after it
abbrev pub Ascend : List (List ℕ) → Type 0
Ascend = IsStrictlySortedBy octets_cmp

-- whether a string is one of these
abbrev pub is_among : List (List ℕ) → List ℕ → Bool
is_among strings string = list_any (pointwise nat_eq string) strings

-- the same strings, in whatever order and however often
abbrev pub SameStrings : List (List ℕ) → List (List ℕ) → Type 0
SameStrings xs ys = (string : List ℕ) → is_among xs string ≡ is_among ys string
