-- The octets from which a name is taken are its wire form.
use Rattle.std.proofs.Common.{◌≡◌, ◌↔◌, ℕ, ◌+◌, ◌≤◌, Bool, true, false, cond, nat_eq, List, [], ◌∷◌, ◌++◌, length, drop}
use Rattle.std.proofs.Common.{slice_index, slice_range, Result, Ok, Err, refl, ap, sym, ◌∙◌, subst, arith, add-one, zero-add}
use Rattle.std.proofs.Common.{drop-cons, append_assoc, append-nil}
use Rattle.std.proofs.lemmas.Bool.Decides.{nat_tests}
use Rattle.std.proofs.lemmas.List.{drop_all}
use Rattle.std.proofs.lemmas.List.Edits.{length-between}
use Rattle.std.proofs.lemmas.List.Folds.{drop_split}
use Rattle.dns_wire.specs.Octets.{AreOctets}
use Rattle.dns_names.specs.Names.{IsName, wire}
use Rattle.dns_names.specs.Places.{LabelsRead, Labels, NameAt, name_at}
use Rattle.dns_c.specs.declared.status.Status.{Status}
use Rattle.dns_c.specs.declared.status.Status.TheVariants.{BadName}
use Rattle.dns_c.specs.Arguments.{labels_up_to, wire_name}

-- labels in a run from the first octet on, where no pointer stands
run_is_wire : {m : List ℕ} {p e : ℕ} {n : List (List ℕ)} {q : ℕ} → e ≤ length m → Labels m 0 p e n q
    → drop p m ≡ wire n ++ drop q m
run_is_wire {m} {p} {e} {n} {q} within (Labels.root lt root n_is q_is) =
    rw (n_is, q_is) (first_octet ∙ ap (λ (octet : ℕ). octet ∷ drop (p + 1) m) root)
  where
    first_octet : drop p m ≡ slice_index m p ∷ drop (p + 1) m
    first_octet = rw add-one (drop-cons m p 0 (omega arith))
run_is_wire {m} {p} {e} {n} {q} within
    (Labels.label {behind = behind} {others = others} lt some few behind_is inside n_is rest) =
    let behind_label = run_is_wire within rest in
    let octets : List ℕ = slice_range m (p + 1) behind in
    let first_octet : drop p m ≡ slice_index m p ∷ drop (p + 1) m = rw add-one (drop-cons m p 0 (omega arith)) in
    let counted : slice_index m p ≡ length octets =
    omega (arith, length-between m (p + 1) behind (omega arith)) in
    let split : drop (p + 1) m ≡ octets ++ wire others ++ drop q m =
    drop_split m (p + 1) behind (omega arith) ∙ ap (λ t. octets ++ t) behind_label
    ∙ sym (append_assoc octets (wire others) (drop q m)) in
    rw n_is (first_octet ∙ (λ i. counted i ∷ split i))
run_is_wire {m} {p} {e} {n} {q} within (Labels.pointer lt high half t_is back q_is rest) = elim back [ ]

-- a name that stands in all octets is spelled by them
standing_is_wire : (m : List ℕ) (n : List (List ℕ)) → NameAt m 0 (length m) n (length m) → m ≡ wire n
standing_is_wire m n stands =
    run_is_wire (omega arith) stands.labels ∙ ap (λ t. wire n ++ t) (drop_all (length m) m (omega arith))
    ∙ append-nil (wire n)

taken : (b : Bool) (x n : List (List ℕ)) → cond {A = Result (List (List ℕ)) Status} b (Ok x) (Err BadName) ≡ Ok n
    → (b ≡ true) × (x ≡ n)
taken true x n h = (refl, cc)
taken false x n h = absurd (cc)

-- what was read, where a name is taken
read_up_to : (end : ℕ) (read : LabelsRead) (n : List (List ℕ)) → labels_up_to end read ≡ Ok n → read ≡ Ok (n, end)
read_up_to end (Err fault) n h = absurd (cc)
read_up_to end (Ok x) n h =
    let t = taken (nat_eq x.1 end) x.0 n h in
    let last : x.1 ≡ end = grind (arith, nat_tests, t.0) in
    λ i. Ok (t.1 i, last i)

-- what is taken, where a name was read
up_to_end : (end : ℕ) (n : List (List ℕ)) → labels_up_to end (Ok (n, end)) ≡ Ok n
up_to_end end n = let same : nat_eq end end ≡ true = grind (arith, nat_tests) in rw same refl

module _
    (reads : (m : List ℕ) (p e : ℕ) (n : List (List ℕ)) (q : ℕ) → e ≤ length m
    → (name_at m p e ≡ Ok (n, q)) ↔ NameAt m p e n q)
    (is_name : (m : List ℕ) (p e : ℕ) (n : List (List ℕ)) (q : ℕ) → AreOctets m → NameAt m p e n q → IsName n)
    (stands : (n : List (List ℕ)) (front rest : List ℕ) (e : ℕ) → IsName n → length front + length (wire n) ≤ e
    → e ≤ length (front ++ (wire n ++ rest))
    → NameAt (front ++ (wire n ++ rest)) (length front) e n (length front + length (wire n))) where
  taken_is_wire : (m : List ℕ) (n : List (List ℕ)) → AreOctets m → wire_name m ≡ Ok n → (m ≡ wire n) × IsName n
  taken_is_wire m n octets h =
      let at = (reads m 0 (length m) n (length m) (omega arith)).0
      (read_up_to (length m) (name_at m 0 (length m)) n h) in
      (standing_is_wire m n at, is_name m 0 (length m) n (length m) octets at)

  wire_is_taken : (m : List ℕ) (n : List (List ℕ)) → m ≡ wire n → IsName n → wire_name m ≡ Ok n
  wire_is_taken m n is name =
      let len : ℕ = length (wire n) in
      let written = stands n [] [] len name (omega arith) (omega (arith, ap length (append-nil (wire n)))) in
      let ends : NameAt (wire n ++ []) 0 len n len = subst (λ q. NameAt (wire n ++ []) 0 len n q) (zero-add len) written in
      let whole : NameAt (wire n) 0 len n len = subst (λ t. NameAt t 0 len n len) (append-nil (wire n)) ends in
      let at : NameAt m 0 (length m) n (length m) =
      subst (λ t. NameAt t 0 (length t) n (length t)) (sym is) whole in
      ap (labels_up_to (length m)) ((reads m 0 (length m) n (length m) (omega arith)).1 at) ∙ up_to_end (length m) n

  pub wire_names : (m : List ℕ) (n : List (List ℕ)) → AreOctets m
      → (wire_name m ≡ Ok n) ↔ ((m ≡ wire n) × IsName n)
  wire_names m n octets = (taken_is_wire m n octets, λ x. wire_is_taken m n x.0 x.1)
