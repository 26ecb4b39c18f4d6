-- What was written is read.
use Rattle.std.proofs.Common.{◌≡◌, ℕ, ◌+◌, ◌-◌, ◌≤◌, List, [], ◌∷◌, ◌++◌, length, take, drop, get_or, slice_index}
use Rattle.std.proofs.Common.{slice_range, refl, ap, sym, ◌∙◌, subst, append_assoc, arith, length-append}
use Rattle.std.proofs.lemmas.List.{get_or_at, drop_at, take_at}
use Rattle.std.specs.List.{AllByRecursion}
use Rattle.dns_names.specs.Names.{IsLabel, IsName, wire}
use Rattle.dns_names.specs.Places.{Labels, NameAt}

pub written_stands : (n : List (List ℕ)) (m front rest : List ℕ) (r p e : ℕ) → m ≡ front ++ (wire n ++ rest)
    → length front ≡ p → AllByRecursion IsLabel n → p + length (wire n) ≤ e → Labels m r p e n (p + length (wire n))
written_stands [] m front rest r p e m_is at each within = Labels.root (omega arith) (ap (λ z. get_or z p 0) m_is
    ∙ get_or_at front 0 rest 0 p at) refl refl
written_stands (label ∷ n) m front rest r p e m_is at each within =
    let octet : slice_index m p ≡ length label = ap (λ z. get_or z p 0) m_is
    ∙ get_or_at front (length label) ((label ++ wire n) ++ rest) 0 p at in
    let front1 : List ℕ = front ++ (length label ∷ label) in
    let m_is1 : m ≡ front1 ++ (wire n ++ rest) = m_is
    ∙ ap (λ t. front ++ (length label ∷ t)) (append_assoc label (wire n) rest)
    ∙ sym (append_assoc front (length label ∷ label) (wire n ++ rest)) in
    let at1 : length front1 ≡ p + 1 + slice_index m p = omega
    (arith, length-append front (length label ∷ label), octet) in
    let longer : p + 1 + slice_index m p + length (wire n)
    ≡ p + length (wire (label ∷ n)) = omega (arith, length-append label (wire n), octet) in
    let from : drop (p + 1) m ≡ label ++ (wire n ++ rest) = ap (drop (p + 1)) (m_is1
    ∙ regroup front label (wire n ++ rest))
    ∙ drop_at (front ++ length label ∷ []) (label ++ (wire n ++ rest)) (p + 1)
    (length-append front (length label ∷ []) ∙ ap (λ k. k + 1) at) in
    let count : p + 1 + slice_index m p - (p + 1) ≡ length label = omega (arith, octet) in
    let label_is : slice_range m (p + 1) (p + 1 + slice_index m p) ≡ label = (λ i. take (count i) (from i))
    ∙ take_at label (wire n ++ rest) (length label) refl in
    let behind = written_stands n m front1 rest r (p + 1 + slice_index m p) e m_is1 at1 each.1
    (omega (arith, longer)) in
    Labels.label (omega (arith, length-append label (wire n))) (omega (arith, octet, each.0.nonempty))
    (omega (arith, octet, each.0.at_most_63)) refl (omega (arith, longer)) (ap (λ l. l ∷ n) (sym label_is))
    (subst (λ q. Labels m r (p + 1 + slice_index m p) e n q) longer behind)
  where
    regroup : (front label tail : List ℕ) → (front ++ (length label ∷ label)) ++ tail
        ≡ (front ++ length label ∷ []) ++ (label ++ tail)
    regroup front label tail = append_assoc front (length label ∷ label) tail
        ∙ sym (append_assoc front (length label ∷ []) (label ++ tail))

-- the name that was written stands where it was written
pub written_name : (n : List (List ℕ)) (front rest : List ℕ) (e : ℕ) → IsName n → length front + length (wire n) ≤ e
    → e ≤ length (front ++ (wire n ++ rest))
    → NameAt (front ++ (wire n ++ rest)) (length front) e n (length front + length (wire n))
written_name n front rest e name fits within = record {
  within = within;
  at_most_255 = name.at_most_255;
  labels =
      written_stands n (front ++ (wire n ++ rest)) front rest (length front) (length front) e refl refl name.each fits;
}
