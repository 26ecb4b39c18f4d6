-- The owner of a wildcard is a name.
use Rattle.std.proofs.Common.{◌≡◌, ℕ, zero, suc, ◌-◌, ◌<◌, ◌≤◌, Bool, true, false, List, [], ◌∷◌, length, drop}
use Rattle.std.proofs.Common.{refl, sym, subst, arith, length-append, cond}
use Rattle.std.specs.Prelude.{codes, nat_eq, nat_lt, Some, None, Result, Ok}
use Rattle.std.specs.Option.{ok_or}
use Rattle.std.proofs.lemmas.Bool.Decides.{nat_tests}
use Rattle.std.specs.List.{AllByRecursion}
use Rattle.std.specs.Cmp.Lexicographic.{pointwise}
use Rattle.dns_names.specs.Names.{IsLabel, IsName, count, wire}
use Rattle.sec_sign.specs.declared.tbs_error.TbsError.{TbsError}
use Rattle.sec_sign.specs.declared.tbs_error.TbsError.TheVariants.{LabelsExceedOwner}
use Rattle.sec_sign.specs.Signed.{signed_owner}

-- the rightmost labels of a name are no longer on the wire than all
length-wire-drop : (n : List (List ℕ)) (j : ℕ) → length (wire (drop j n)) ≤ length (wire n)
length-wire-drop [] zero = omega arith
length-wire-drop [] (suc j) = omega arith
length-wire-drop (label ∷ n) zero = omega arith
length-wire-drop (label ∷ n) (suc j) = omega (arith, length-wire-drop n j, length-append label (wire n))

each-drop : (n : List (List ℕ)) (j : ℕ) → AllByRecursion IsLabel n → AllByRecursion IsLabel (drop j n)
each-drop [] zero each = tt
each-drop [] (suc j) each = tt
each-drop (label ∷ n) zero each = each
each-drop (label ∷ n) (suc j) each = each-drop n j each.1

-- fewer labels than are counted are no more than those behind the first
few : (first : Bool) (k labels : ℕ) → labels < cond first k (suc k) → labels ≤ k
few true k labels lt = omega arith
few false k labels lt = omega arith

-- the label `*`
star_is_label : IsLabel (codes "*")
star_is_label = record { nonempty = omega arith; at_most_63 = omega arith; octets = (omega arith, tt) }

pub wildcard_name : (n : List (List ℕ)) (labels : ℕ) → IsName n → labels < count n
    → IsName (codes "*" ∷ drop (length n - labels) n)
wildcard_name [] labels name more = absurd (omega arith)
wildcard_name (label ∷ n) labels name more =
    let le : labels ≤ length n = few (pointwise nat_eq label (codes "*")) (length n) labels more in
    let count : suc (length n) - labels ≡ suc (length n - labels) = omega arith in
    let some : 0 < length label = name.each.0.nonempty in
    let whole : length (wire (label ∷ n)) ≤ 255 = name.at_most_255 in
    let left : length (wire (drop (length n - labels) n)) ≤ length (wire n) = length-wire-drop n (length n - labels) in
    let is : IsName (codes "*" ∷ drop (length n - labels) n) = record {
      each = (star_is_label, each-drop n (length n - labels) name.each.1);
      at_most_255 = omega (arith, left, whole, some, length-append label (wire n));
    } in
    subst (λ k. IsName (codes "*" ∷ drop k (label ∷ n))) (sym count) is

-- a label `*` has room before the rightmost labels of a name that has more
pub wildcard_fits : (n : List (List ℕ)) (labels : ℕ) → IsName n → labels < count n
    → length (wire (codes "*" ∷ drop (length n - labels) n)) ≤ 255
wildcard_fits n labels name more = (wildcard_name n labels name more).at_most_255

-- the owner as it is signed is a name
pub shown_name : (n : List (List ℕ)) (labels : ℕ) (owner : List (List ℕ)) → IsName n → signed_owner n labels ≡ Ok owner
    → IsName owner
shown_name n labels owner name is = at (nat_lt (count n) labels) (nat_eq (count n) labels) refl refl is
  where
    at : (up equal : Bool) → nat_lt (count n) labels ≡ up → nat_eq (count n) labels ≡ equal
        → ◌≡◌ {A = Result (List (List ℕ)) TbsError} (ok_or (cond up None
        (cond equal (Some n) (Some (codes "*" ∷ drop (length n - labels) n)))) (LabelsExceedOwner labels (count n)))
        (Ok owner) → IsName owner
    at true equal e f h = absurd cc
    at false true e f h = let same : n ≡ owner = cc in subst IsName same name
    at false false e f h =
        let same : codes "*" ∷ drop (length n - labels) n ≡ owner = cc in
        let more : labels < count n = grind (arith, nat_tests) in
        subst IsName same (wildcard_name n labels name more)
