-- How long the text of a name is.
use Rattle.std.proofs.Common.{◌≡◌, ℕ, ◌+◌, ◌*◌, ◌/◌, ◌%◌, ◌<◌, ◌≤◌, Bool, true, false, cond, List, [], ◌∷◌, ◌++◌, length}
use Rattle.std.proofs.Common.{take, get_or, ap, arith, length-append}
use Rattle.std.proofs.lemmas.List.Folds.{length-flat_map-take}
use Rattle.std.specs.List.{AllByRecursion, flat_map}
use Rattle.std.specs.Char.{is_ascii_graphic}
use Rattle.std.specs.Fmt.{decimal}
use Rattle.std.proofs.lemmas.Fmt.{decimal_digit}
use Rattle.dns_wire.specs.Octets.{AreOctets}
use Rattle.dns_names.specs.Names.{IsLabel, IsName, wire}
use Rattle.dns_names.specs.NameText.{is_special, octet_text, octets_text, label_text, dot, backslash}

-- the three digits of an octet
three_digits : (octet : ℕ) → octet < 256
    → backslash ∷ (decimal (octet / 100) ++ decimal (octet / 10 % 10) ++ decimal (octet % 10))
    ≡ backslash ∷ (48 + octet / 100) ∷ (48 + octet / 10 % 10) ∷ (48 + octet % 10) ∷ []
three_digits octet small =
    let a : octet / 100 < 10 = omega arith in
    let b : octet / 10 % 10 < 10 = omega arith in
    let c : octet % 10 < 10 = omega arith in
    λ i. backslash
    ∷ (decimal_digit (octet / 100) a i ++ decimal_digit (octet / 10 % 10) b i ++ decimal_digit (octet % 10) c i)

-- the text of an octet that is not visible
pub octet_in_digits : (octet : ℕ) → octet < 256 → is_special octet ≡ false → is_ascii_graphic octet ≡ false
    → octet_text octet ≡ backslash ∷ (48 + octet / 100) ∷ (48 + octet / 10 % 10) ∷ (48 + octet % 10) ∷ []
octet_in_digits octet small special graphic = rw (special, graphic) (three_digits octet small)

-- an octet is four octets of text at most
octet_text_at_most : (octet : ℕ) → octet < 256 → length (octet_text octet) ≤ 4
octet_text_at_most octet small = at (is_special octet) (is_ascii_graphic octet)
  where
    at : (s g : Bool) → length (cond s (backslash ∷ octet ∷ [])
        (cond g (octet ∷ []) (backslash ∷ (decimal (octet / 100) ++ decimal (octet / 10 % 10) ++ decimal (octet % 10)))))
        ≤ 4
    at true g = omega arith
    at false true = omega arith
    at false false = omega (arith, ap length (three_digits octet small))

octets_text_at_most : (label : List ℕ) → AreOctets label → length (octets_text label) ≤ 4 * length label
octets_text_at_most [] octets = omega arith
octets_text_at_most (x ∷ label) octets =
    omega (
      arith,
      length-append (octet_text x) (octets_text label),
      octet_text_at_most x octets.0,
      octets_text_at_most label octets.1,
    )

-- the octets of all labels
content : List (List ℕ) → ℕ
content [] = 0
content (label ∷ n) = length label + content n

length-wire : (n : List (List ℕ)) → length (wire n) ≡ content n + length n + 1
unfolding content
length-wire [] = omega arith
length-wire (label ∷ n) = omega (arith, length-append label (wire n), length-wire n)

content_at_most : (n : List (List ℕ)) → AllByRecursion IsLabel n → content n ≤ 63 * length n
unfolding content
content_at_most [] h = omega arith
content_at_most (label ∷ n) h = omega (arith, h.0.at_most_63, content_at_most n h.1)

labels_text_at_most : (n : List (List ℕ)) → AllByRecursion IsLabel n
    → length (flat_map label_text n) ≤ 4 * content n + length n
unfolding content
labels_text_at_most [] h = omega arith
labels_text_at_most (label ∷ n) h =
    omega (
      arith,
      length-append (label_text label) (flat_map label_text n),
      length-append (octets_text label) (dot ∷ []),
      octets_text_at_most label h.0.octets,
      labels_text_at_most n h.1,
    )

-- The text of a name has 1,004 octets at most: 254 octets are labels and their lengths, and these are four or more.
pub name_text_at_most : (n : List (List ℕ)) → IsName n → length (flat_map label_text n) ≤ 1004
name_text_at_most n name =
    omega (arith, name.at_most_255, length-wire n, content_at_most n name.each, labels_text_at_most n name.each)

-- a further label of a name fits behind those that were written
pub label_fits : (text label : List ℕ) (labels n : List (List ℕ)) → IsName n
    → text ++ flat_map label_text (label ∷ labels) ≡ flat_map label_text n
    → length text + length (label_text label) ≤ 1004
label_fits text label labels n name whole =
    omega (
      arith,
      name_text_at_most n name,
      ap length whole,
      length-append text (flat_map label_text (label ∷ labels)),
      length-append (label_text label) (flat_map label_text labels),
    )

-- a further octet of a label fits behind those that were written
pub octet_fits : (before text label : List ℕ) (i : ℕ) → i < length label
    → length before + length (label_text label) ≤ 1004 → text ≡ before ++ flat_map octet_text (take i label)
    → length text + length (octet_text (get_or label i 0)) ≤ 1004
octet_fits before text label i lt fits is =
    omega (
      arith,
      ap length is,
      length-append before (flat_map octet_text (take i label)),
      length-flat_map-take octet_text label i 0 lt,
      length-append (octets_text label) (dot ∷ []),
    )
