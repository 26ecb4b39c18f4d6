-- What the type bitmaps of NSEC and NSEC3 records say (RFC 4034 4.1.2, 4.2; RFC 6840 4.1).
use Rattle.std.specs.Prelude.{ℕ, Bool, ◌&&◌, ◌||◌, not, List, ◌++◌, codes}
use Rattle.std.specs.List.{flat_map}
use Rattle.dns_types.specs.Codes.{type_text}
use Rattle.dns_types.specs.TypeNumbers as numbers
use Rattle.dns_types.specs.TypeSets.{has_type, types}

-- the types of a set, each behind a space
unfoldable pub types_text : List ℕ → List ℕ
types_text set = flat_map (λ t. codes " " ++ type_text t) (types set)

-- The types are those of a delegation as the zone above sees it, NS without SOA, or of a subtree under another name,
-- DNAME. A record with them must not be taken to deny names below its own (RFC 6840 4.1).
abbrev pub is_ancestor_delegation : List ℕ → Bool
is_ancestor_delegation set = has_type set numbers.DNAME || has_type set numbers.NS && not (has_type set numbers.SOA)
