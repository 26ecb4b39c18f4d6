-- Domain names, as lists of labels, leftmost first (RFC 1035 3.1).
use Rattle.std.specs.Prelude.{Bool, ◌≡◌, ℕ, zero, suc, ◌<◌, ◌≤◌, ◌-◌, List, [], ◌∷◌, ◌++◌, length, replicate, map}
use Rattle.std.specs.Prelude.{reverse, take, nat_eq, if◌then◌else◌, codes}
use Rattle.std.specs.List.{AllByRecursion}
use Rattle.std.specs.declared.cmp.Ordering.{Ordering}
use Rattle.std.specs.Ordering.{nat_cmp}
use Rattle.std.specs.Cmp.Lexicographic.{pointwise, slice_cmp}
use Rattle.dns_wire.specs.Octets.{AreOctets, lowered}

-- a label: 1 to 63 octets (RFC 1035 2.3.4)
pub record IsLabel (label : List ℕ) : Type 0 where
  pub nonempty : 0 < length label
  pub at_most_63 : length label ≤ 63
  pub octets : AreOctets label

-- the wire form: each label behind its length, then a zero octet (RFC 1035 3.1)
abbrev pub wire : List (List ℕ) → List ℕ
wire [] = 0 ∷ []
wire (label ∷ labels) = length label ∷ (label ++ wire labels)

-- a name: labels whose wire form has at most 255 octets (RFC 1035 2.3.4)
pub record IsName (labels : List (List ℕ)) : Type 0 where
  pub each : AllByRecursion IsLabel labels
  pub at_most_255 : length (wire labels) ≤ 255

-- the name with each octet lowered
abbrev pub low : List (List ℕ) → List (List ℕ)
low = map lowered

-- no letter is in upper case
abbrev pub IsLowered : List (List ℕ) → Type 0
IsLowered n = low n ≡ n

-- the same name, the case of ASCII letters aside (RFC 4343 3)
abbrev pub Same : List (List ℕ) → List (List ℕ) → Type 0
Same n z = low n ≡ low z

-- whether n and z are the same name
abbrev pub same : List (List ℕ) → List (List ℕ) → Bool
same n z = pointwise (pointwise nat_eq) (low n) (low z)

-- The canonical order of names (RFC 4034 6.1): their labels from the rightmost on, lowered, each as a string of
-- unsigned octets. Where one string or one list of labels begins another, it comes first.
abbrev pub name_cmp : List (List ℕ) → List (List ℕ) → Ordering
name_cmp n z = slice_cmp (slice_cmp nat_cmp) (reverse (low n)) (reverse (low z))

-- n is z, or is below z
abbrev pub Under : List (List ℕ) → List (List ℕ) → Type 0
Under n z = (front : List (List ℕ)) × (low n ≡ front ++ low z)

-- the number of labels, one leading label `*` left out (RFC 4034 3.1.3)
abbrev pub count : List (List ℕ) → ℕ
count [] = 0
count (label ∷ labels) = if pointwise nat_eq label (codes "*") then length labels else suc (length labels)

-- the labels that an octet string spells up to a zero octet, behind so many octets that belong to the label before
abbrev pub labels_behind : ℕ → List ℕ → List (List ℕ)
labels_behind skipped [] = []
labels_behind (suc skipped) (octet ∷ octets) = labels_behind skipped octets
labels_behind zero (zero ∷ octets) = []
labels_behind zero (suc len ∷ octets) = take (suc len) octets ∷ labels_behind (suc len) octets

-- the labels that the front of an octet string spells
abbrev pub labels_of_wire : List ℕ → List (List ℕ)
labels_of_wire = labels_behind 0

-- the wire form, and zero octets up to 255
abbrev pub padded : List (List ℕ) → List ℕ
padded labels = wire labels ++ replicate (255 - length (wire labels)) 0

-- the octets are the wire form of a name and zero octets behind it
pub record HoldsName (octets : List ℕ) (len : ℕ) : Type 0 where
  pub name : IsName (labels_of_wire octets)
  pub spelled : octets ≡ padded (labels_of_wire octets)
  pub counted : len ≡ length (wire (labels_of_wire octets))

-- the octets are a label and zero octets behind it
pub record HoldsLabel (octets : List ℕ) (len : ℕ) : Type 0 where
  pub label : IsLabel (take len octets)
  pub spelled : octets ≡ take len octets ++ replicate (63 - length (take len octets)) 0
  pub counted : len ≡ length (take len octets)

-- the octets are the wire form of labels
pub record IsWire (octets : List ℕ) : Type 0 where
  pub each : AllByRecursion IsLabel (labels_of_wire octets)
  pub spelled : octets ≡ wire (labels_of_wire octets)
