-- Names above and below other names.
use Rattle.std.proofs.Common.{true, false, Bool, cond, nat_eq, nat_lt, Result, Ok, Err, refl, ◌≡◌, ℕ, zero, suc, ◌+◌}
use Rattle.std.proofs.Common.{◌-◌, ◌<◌, ◌≤◌, List, [], ◌∷◌, ◌++◌, length, take, drop, replicate, sym, ap, subst, ◌∙◌}
use Rattle.std.proofs.Common.{length-append, arith}
use Rattle.std.proofs.lemmas.List.{drop_at, drop-map, drop-replicate, length-map, take-append-drop}
use Rattle.std.specs.List.{AllByRecursion}
use Rattle.std.proofs.lemmas.Bool.Decides.{nat_tests}
use Rattle.dns_wire.specs.declared.error.NameError.{NameError}
use Rattle.dns_wire.specs.declared.error.NameError.TheVariants.{EmptyLabel, NameTooLong}
use Rattle.dns_wire.specs.Octets.{lowered}
use Rattle.dns_names.specs.NameText.{add_label}
use Rattle.dns_names.specs.Names.{IsName, IsLabel, Under, low, padded, same, wire}
use Rattle.dns_names.specs.NameLaws.{length_lt-wire, same_decides}

pub few_labels : (n : List (List ℕ)) → IsName n → length n ≤ 254
few_labels n h = omega (arith, length_lt-wire n, h.at_most_255)

-- a name without its first labels is no longer than before
dropped_short : (k : ℕ) (n : List (List ℕ)) → length (wire (drop k n)) ≤ length (wire n)
dropped_short zero n = omega arith
dropped_short (suc k) [] = omega arith
dropped_short (suc k) (label ∷ n) = omega (arith, dropped_short k n, length-append label (wire n))

pub dropped_fits : (k : ℕ) (n : List (List ℕ)) → IsName n → length (wire (drop k n)) ≤ 255
dropped_fits k n h = omega (arith, dropped_short k n, h.at_most_255)

-- the wire form of labels that are left, as it lies in memory
pub rest_padded : (n : List (List ℕ)) (rest written : List ℕ) → rest ≡ wire n → written ≡ rest
    → written ++ drop (length rest) (replicate 255 0) ≡ padded n
rest_padded n rest written spelled is =
    ap (λ t. t ++ drop (length rest) (replicate 255 0)) is ∙ ap (λ t. rest ++ t) (drop-replicate (length rest) 255 0)
    ∙ ap (λ t. t ++ replicate (255 - length t) 0) spelled

-- the rightmost labels, as many as n has, are the same as n exactly where z is n or below it
pub zone_decides : (n z : List (List ℕ)) → (same (drop (length z - length n) z) n ≡ true → Under z n)
    × (Under z n → same (drop (length z - length n) z) n ≡ true)
zone_decides n z =
    let k : ℕ = length z - length n in (
      λ h. (
        take k (low z),
        sym (take-append-drop k (low z))
            ∙ ap (λ t. take k (low z) ++ t) (drop-map lowered k z ∙ (same_decides (drop k z) n).0 h),
      ),
      λ u.
          (same_decides (drop k z) n).1 (below u),
    )
  where
    below : (u : Under z n) → low (drop (length z - length n) z) ≡ low n
    below u =
        let long : length u.0 ≡ length z - length n = omega
        (arith, ap length u.1, length-append u.0 (low n), length-map n lowered, length-map z lowered) in
        sym (drop-map lowered (length z - length n) z) ∙ ap (drop (length z - length n)) u.1
        ∙ drop_at u.0 (low n) (length z - length n) long

-- a label in the middle of a list of labels
in_middle : (front : List (List ℕ)) (label : List ℕ) (rest : List (List ℕ))
    → AllByRecursion IsLabel (front ++ label ∷ rest) → IsLabel label
in_middle [] label rest all = all.0
in_middle (x ∷ front) label rest all = in_middle front label rest all.1

-- the front and one label more are no longer than the whole
pub front_fits : (front : List (List ℕ)) (label : List ℕ) (rest : List (List ℕ))
    → length (wire front) + length label + 1 ≤ length (wire (front ++ label ∷ rest))
front_fits [] label rest = omega (arith, length-append label (wire rest), length_lt-wire rest)
front_fits (x ∷ front) label rest = omega (
  arith,
  front_fits front label rest,
  length-append x
      (wire front),
  length-append x (wire (front ++ label ∷ rest)),
)

-- the next label, while the labels of a name are put together
pub next_label : (shown : List (List ℕ)) (label : List ℕ) (rest whole : List (List ℕ)) → AllByRecursion IsLabel whole
    → shown ++ label ∷ rest ≡ whole → IsLabel label
next_label shown label rest whole each joined = in_middle shown label rest
    (subst (AllByRecursion IsLabel) (sym joined) each)

-- what a label that was added says of the name
pub record AddedLabel (n : List (List ℕ)) (label : List ℕ) (longer : List (List ℕ)) : Type 0 where
  pub is : longer ≡ n ++ label ∷ []
  pub nonempty : 0 < length label
  pub fits : length (wire n) + length label + 1 ≤ 255

pub added_label : (n longer : List (List ℕ)) (label : List ℕ) → add_label n label ≡ Ok longer
    → AddedLabel n label longer
added_label n longer label h = at (nat_eq (length label) 0)
    (nat_lt 255 (length (wire n) + length label + 1)) refl refl h
  where
    at : (none long : Bool) → nat_eq (length label) 0 ≡ none → nat_lt 255 (length (wire n) + length label + 1) ≡ long
        → cond none (Err EmptyLabel) (cond {A = Result (List (List ℕ)) NameError} long (Err NameTooLong)
        (Ok (n ++ label ∷ []))) ≡ Ok longer → AddedLabel n label longer
    at true long none is_long e = absurd (cc)
    at false true none is_long e = absurd (cc)
    at false false none is_long e = record {
      is = cc;
      nonempty = grind (arith, nat_tests);
      fits = grind
          (arith, nat_tests);
    }

-- a label that did not fit, and what begins with it and the labels before
pub too_long : (shown : List (List ℕ)) (label : List ℕ) (rest whole : List (List ℕ)) (e : NameError) → IsLabel label
    → shown ++ label ∷ rest ≡ whole → add_label shown label ≡ Err e → (e ≡ NameTooLong) × (255 < length (wire whole))
too_long shown label rest whole e is joined h = at (nat_eq (length label) 0)
    (nat_lt 255 (length (wire shown) + length label + 1)) refl refl h
  where
    at : (none long : Bool) → nat_eq (length label) 0 ≡ none
        → nat_lt 255 (length (wire shown) + length label + 1) ≡ long
        → cond none (Err EmptyLabel) (cond {A = Result (List (List ℕ)) NameError} long (Err NameTooLong)
        (Ok (shown ++ label ∷ []))) ≡ Err e → (e ≡ NameTooLong) × (255 < length (wire whole))
    at true long none is_long g = absurd (grind (arith, nat_tests, is.nonempty))
    at false false none is_long g = absurd (cc)
    at false true none is_long g =
        let above : 255 < length (wire shown) + length label + 1 = grind (arith, nat_tests) in
        (cc, omega (arith, above, front_fits shown label rest, ap (λ z. length (wire z)) joined))
