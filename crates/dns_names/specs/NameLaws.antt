-- The wire form of a name tells the name.
use Rattle.std.proofs.Common.{Bool, reverse, nat_eq, get_or, ◌≢◌, replicate, ◌-◌, subst, ◌≡◌, ℕ, zero, suc, ◌+◌, ◌<◌}
use Rattle.std.proofs.Common.{◌≤◌, List, [], ◌∷◌, ◌++◌, length, take, drop, refl, ap, sym, ◌∙◌, append_assoc, arith}
use Rattle.std.proofs.Common.{length-append}
use Rattle.std.proofs.lemmas.List.{take_at, drop_at, take_rest, drop-replicate, reverse-reverse, map-append, length-map}
use Rattle.std.proofs.lemmas.List.{append-nil}
use Rattle.std.proofs.lemmas.Bool.Decides.{nat_tests, same_from_decides, Decides-like}
use Rattle.std.specs.List.{AllByRecursion}
use Rattle.std.specs.Hash as fed
use Rattle.std.specs.Hash.{Alike}
use Rattle.std.specs.Bool.{Decides, one_answer}
use Rattle.std.specs.Ordering.{nat_cmp, eq_by_cmp}
use Rattle.std.specs.Cmp.{IsTotalOrder, on_total, nat_cmp_total, unsigned_ties}
use Rattle.std.specs.Cmp.Lexicographic.{pointwise, pointwise_decides, bytes_decides, slice_cmp, lists_total, lists_ties}
use Rattle.dns_wire.specs.Octets.{lower, lowered, AreOctets}
use Rattle.dns_names.specs.Names.{IsLabel, HoldsLabel, IsName, HoldsName, IsWire, padded, wire, low, IsLowered, same}
use Rattle.dns_names.specs.Names.{name_cmp, labels_behind, labels_of_wire}

-- behind the octets of a label
labels_behind_label : (label tail : List ℕ) → labels_behind (length label) (label ++ tail) ≡ labels_of_wire tail
labels_behind_label [] tail = refl
labels_behind_label (x ∷ label) tail = labels_behind_label label tail

-- the first label, behind its length
first_label : (label tail : List ℕ) → 0 < length label
    → labels_of_wire (length label ∷ (label ++ tail)) ≡ label ∷ labels_of_wire tail
first_label [] tail h = absurd (omega arith)
first_label (x ∷ label) tail h = λ i. take_at (x ∷ label) tail (length (x ∷ label)) refl i
    ∷ labels_behind_label label tail i

pub length_lt-wire : (n : List (List ℕ)) → length n < length (wire n)
length_lt-wire [] = omega arith
length_lt-wire (label ∷ n) = omega (arith, length_lt-wire n, length-append label (wire n))

-- the labels of a wire form, whatever follows it
pub labels_of_wire-wire : (n : List (List ℕ)) (rest : List ℕ) → AllByRecursion IsLabel n
    → labels_of_wire (wire n ++ rest) ≡ n
labels_of_wire-wire [] rest h = refl
labels_of_wire-wire (label ∷ n) rest h =
    ap (λ t. labels_of_wire (length label ∷ t)) (append_assoc label (wire n) rest)
    ∙ first_label label (wire n ++ rest) h.0.nonempty
    ∙ ap (λ t. label ∷ t) (labels_of_wire-wire n rest h.1)

-- two names with one wire form are one
pub same_from_wire : (n z : List (List ℕ)) (s t : List ℕ) → AllByRecursion IsLabel n → AllByRecursion IsLabel z
    → wire n ++ s ≡ wire z ++ t → n ≡ z
same_from_wire n z s t h g e = sym (labels_of_wire-wire n s h) ∙ ap labels_of_wire e ∙ labels_of_wire-wire z t g

-- a number below 65 is no letter
lower_few : (k : ℕ) → k ≤ 63 → lower k ≡ k
lower_few k h = grind (arith, nat_tests)

-- lowering the wire form lowers the labels alone, since a length is no letter
pub lowered-wire : (n : List (List ℕ)) → AllByRecursion IsLabel n → lowered (wire n) ≡ wire (low n)
lowered-wire [] h = refl
lowered-wire (label ∷ n) h =
    let few : length label ≤ 63 = h.0.at_most_63 in
    let front : lower (length label) ≡ length (lowered label) = lower_few (length label) few
    ∙ sym (length-map label lower) in
    let behind : lowered (label ++ wire n) ≡ lowered label ++ wire (low n) = map-append lower label (wire n)
    ∙ ap (λ t. lowered label ++ t) (lowered-wire n h.1) in
    cc

-- `same` says that the lowered names are one
pub same_decides : (n z : List (List ℕ)) → Decides (same n z) (low n ≡ low z)
same_decides n z = pointwise_decides bytes_decides (low n) (low z)

-- the same names are hashed alike
pub same_alike : Alike same (λ n. fed.slice fed.u8 (wire (low n)))
same_alike = record { fed = λ n z h. ap (λ l. fed.slice fed.u8 (wire l)) ((same_decides n z).0 h) }

-- the canonical order of names is a total order
pub name_cmp_total : IsTotalOrder name_cmp
name_cmp_total = on_total (λ n. reverse (low n)) (lists_total (lists_total nat_cmp_total))

-- the same names are those that the order does not tell apart
pub same_ties : (n z : List (List ℕ)) → same n z ≡ eq_by_cmp name_cmp n z
same_ties n z =
    let turned : Decides (pointwise (pointwise nat_eq) (reverse (low n)) (reverse (low z))) (reverse (low n)
    ≡ reverse (low z)) = pointwise_decides bytes_decides (reverse (low n)) (reverse (low z)) in
    one_answer (same n z) (pointwise (pointwise nat_eq) (reverse (low n)) (reverse (low z))) (same_decides n z) (
      λ h. sym (reverse-reverse (low n)) ∙ ap reverse (turned.0 h)
          ∙ reverse-reverse (low z),
      λ e. turned.1 (ap reverse e),
    )
    ∙ lists_ties (slice_cmp nat_cmp) (lists_ties nat_cmp unsigned_ties) (reverse (low n)) (reverse (low z))

-- the labels of a name as it lies in memory
pub labels_of_wire-padded : (n : List (List ℕ)) (octets : List ℕ) → IsName n → octets ≡ padded n
    → labels_of_wire octets ≡ n
labels_of_wire-padded n octets name e = ap labels_of_wire e
    ∙ labels_of_wire-wire n (replicate (255 - length (wire n)) 0) name.each

-- what holds of a name as it lies in memory
pub holds_name : (n : List (List ℕ)) (octets : List ℕ) (len : ℕ) → IsName n → octets ≡ padded n → len ≡ length (wire n)
    → HoldsName octets len
holds_name n octets len name e counted =
    let back : n ≡ labels_of_wire octets = sym (labels_of_wire-padded n octets name e) in
    record {
      name = subst IsName back name;
      spelled = e ∙ ap padded back;
      counted = counted ∙ ap (λ z. length (wire z)) back;
    }

-- lowering keeps an octet an octet
lowered_octets : (octets : List ℕ) → AreOctets octets → AreOctets (lowered octets)
lowered_octets [] h = tt
lowered_octets (x ∷ xs) h = (lower_octet x h.0, lowered_octets xs h.1)
  where
    lower_octet : (x : ℕ) → x < 256 → lower x < 256
    lower_octet x h = grind (arith, nat_tests)

low_labels : (n : List (List ℕ)) → AllByRecursion IsLabel n → AllByRecursion IsLabel (low n)
low_labels [] h = tt
low_labels (label ∷ n) h = (
  record {
    nonempty = rw (length-map label lower) h.0.nonempty;
    at_most_63 = rw
        (length-map label lower) h.0.at_most_63;
    octets = lowered_octets label h.0.octets;
  },
  low_labels n h.1,
)

-- lowering keeps the length of the wire form
pub length-wire-low : (n : List (List ℕ)) → length (wire (low n)) ≡ length (wire n)
length-wire-low [] = refl
length-wire-low (label ∷ n) = omega (
  arith,
  length-append (lowered label) (wire (low n)),
  length-append label
      (wire n),
  length-map label lower,
  length-wire-low n,
)

pub low_name : (n : List (List ℕ)) → IsName n → IsName (low n)
low_name n h = record { each = low_labels n h.each; at_most_255 = rw (length-wire-low n) h.at_most_255 }

lowered_twice : (octets : List ℕ) → lowered (lowered octets) ≡ lowered octets
lowered_twice [] = refl
lowered_twice (x ∷ xs) = λ i. lower_twice x i ∷ lowered_twice xs i
  where
    lower_twice : (x : ℕ) → lower (lower x) ≡ lower x
    lower_twice x = grind (arith, nat_tests)

-- lowering a name leaves no letter in upper case
pub low_is_lowered : (n : List (List ℕ)) → IsLowered (low n)
low_is_lowered [] = refl
low_is_lowered (label ∷ n) = λ i. lowered_twice label i ∷ low_is_lowered n i

lowered_zeros : (k : ℕ) → lowered (replicate k 0) ≡ replicate k 0
lowered_zeros zero = refl
lowered_zeros (suc k) = ap (λ t. 0 ∷ t) (lowered_zeros k)

-- lowering what lies in memory lowers the name
pub lowered-padded : (n : List (List ℕ)) → IsName n → lowered (padded n) ≡ padded (low n)
lowered-padded n h = map-append lower (wire n) (replicate (255 - length (wire n)) 0)
    ∙ rw (lowered-wire n h.each, lowered_zeros (255 - length (wire n)), length-wire-low n) refl

-- the answer of a comparison of the lowered wire forms
pub same_from_lowered : (n z : List (List ℕ)) (answer : Bool) → IsName n → IsName z
    → Decides answer (lowered (wire n) ≡ lowered (wire z)) → answer ≡ same n z
same_from_lowered n z answer name other decides =
    same_from_decides answer (same n z) (Decides-like answer
    (λ e. same_from_wire (low n) (low z) [] [] (low_labels n name.each) (low_labels z other.each)
    (ap (λ t. t ++ []) (sym (lowered-wire n name.each) ∙ e ∙ lowered-wire z other.each)))
    (λ e. lowered-wire n name.each ∙ ap wire e ∙ sym (lowered-wire z other.each)) decides) (same_decides n z)

-- octets, by their index
pub octets_by_index : (xs : List ℕ) → ((k : ℕ) → get_or xs k 0 < 256) → AreOctets xs
octets_by_index [] h = tt
octets_by_index (x ∷ xs) h = (h 0, octets_by_index xs (λ k. h (suc k)))

-- what holds of a label as it lies in memory
pub holds_label : (label held : List ℕ) → IsLabel label → held ≡ label ++ drop (length label) (replicate 63 0)
    → HoldsLabel held (length label) × (take (length label) held ≡ label)
holds_label label held is e =
    let front : take (length label) held ≡ label = ap (take (length label)) e
    ∙ take_at label (drop (length label) (replicate 63 0)) (length label) refl in
    let few : length label ≤ 63 = is.at_most_63 in (
      record {
        label = subst IsLabel (sym front) is;
        spelled = e ∙ ap (λ t. label ++ t) (drop-replicate (length label) 63 0)
            ∙ ap (λ l. l ++ replicate (63 - length l) 0) (sym front);
        counted = ap length (sym front);
      },
      front,
    )

-- the labels of a wire form alone
pub labels_of_wire-wire_alone : (n : List (List ℕ)) → AllByRecursion IsLabel n → labels_of_wire (wire n) ≡ n
labels_of_wire-wire_alone n h = ap labels_of_wire (sym (append-nil (wire n))) ∙ labels_of_wire-wire n [] h

pub wire_is_wire : (n : List (List ℕ)) (octets : List ℕ) → AllByRecursion IsLabel n → octets ≡ wire n
    → IsWire octets × (labels_of_wire octets ≡ n)
wire_is_wire n octets h e =
    let labels : labels_of_wire octets ≡ n = ap labels_of_wire e ∙ labels_of_wire-wire_alone n h in
    (record { each = subst (AllByRecursion IsLabel) (sym labels) h; spelled = e ∙ ap wire (sym labels) }, labels)

-- the first label and the octets behind it
pub record TakesLabel (octets : List ℕ) (len : ℕ) : Type 0 where
  pub rest : IsWire (take (length octets - (1 + len)) (drop (1 + len) octets))
  pub labels : labels_of_wire octets ≡ take (1 + len - 1) (drop 1 octets)
      ∷ labels_of_wire (take (length octets - (1 + len)) (drop (1 + len) octets))

takes : (label : List ℕ) (n : List (List ℕ)) → AllByRecursion IsLabel n → IsLabel label
    → TakesLabel (wire (label ∷ n)) (length label)
takes label n each is =
    let one : 1 + length label ≡ suc (length label) = omega arith in
    let back : 1 + length label - 1 ≡ length label = omega arith in
    let behind : drop (1 + length label) (wire (label ∷ n)) ≡ wire n = ap (λ j. drop j (wire (label ∷ n))) one
    ∙ drop_at label (wire n) (length label) refl in
    let rest : take (length (wire (label ∷ n)) - (1 + length label)) (drop (1 + length label) (wire (label ∷ n)))
    ≡ wire n = take_rest (wire (label ∷ n)) (1 + length label) ∙ behind in
    let front : take (1 + length label - 1) (drop 1 (wire (label ∷ n)))
    ≡ label = ap (λ j. take j (label ++ wire n)) back ∙ take_at label (wire n) (length label) refl in
    let wired = wire_is_wire n _ each rest in
    record {
      rest = wired.0;
      labels = labels_of_wire-wire_alone (label ∷ n) (is, each)
          ∙ (λ i. sym front i ∷ sym wired.1 i);
    }

pub takes_label : (octets : List ℕ) → IsWire octets → get_or octets 0 0 ≢ 0 → TakesLabel octets (get_or octets 0 0)
takes_label octets h some = go (labels_of_wire octets) refl
  where
    go : (n : List (List ℕ)) → labels_of_wire octets ≡ n → TakesLabel octets (get_or octets 0 0)
    go [] e = absurd (some (ap (λ o. get_or o 0 0) (h.spelled ∙ ap wire e)))
    go (label ∷ n) e =
        let each : AllByRecursion IsLabel (label ∷ n) = subst (AllByRecursion IsLabel) e h.each in
        let is : octets ≡ wire (label ∷ n) = h.spelled ∙ ap wire e in
        subst (λ o. TakesLabel o (get_or o 0 0)) (sym is) (takes label n each.1 each.0)

-- the front of a list of labels is no longer than the whole on the wire
pub length-wire-take : (n : List (List ℕ)) (i : ℕ) (d : List ℕ) → i < length n
    → length (wire (take i n)) + length (get_or n i d) + 1 ≤ length (wire n)
length-wire-take [] i d h = absurd (omega arith)
length-wire-take (label ∷ n) zero d h = omega (arith, length-append label (wire n), length_lt-wire n)
length-wire-take (label ∷ n) (suc i) d h = omega (
  arith,
  length-append label (wire n),
  length-append label
      (wire (take i n)),
  length-wire-take n i d (omega arith),
)
