-- What reading gives is the name that stands at the place.
use Rattle.std.proofs.Common.{◌≡◌, ℕ, zero, suc, ◌+◌, ◌-◌, ◌*◌, ◌<◌, ◌≤◌, inl, inr, take, drop, List, [], ◌∷◌, length}
use Rattle.std.proofs.Common.{slice_index, slice_range, refl, ap, sym, ◌∙◌, subst, arith, Result, Ok, Err}
use Rattle.std.proofs.Common.{length-append}
use Rattle.std.proofs.lemmas.Bool.{cases_lt}
use Rattle.std.proofs.lemmas.List.Edits.{length-between}
use Rattle.dns_wire.specs.declared.error.DecodeError.{DecodeError}
use Rattle.dns_wire.specs.declared.error.DecodeError.TheVariants.{InsufficientBytes, NameMalformed}
use Rattle.std.specs.List.{AllByRecursion}
use Rattle.dns_wire.specs.Octets.{AreOctets}
use Rattle.dns_names.specs.Names.{IsLabel, IsName, wire}
use Rattle.dns_names.specs.Skipping.{without_value}
use Rattle.dns_names.specs.Places.{LabelsRead, Labels, NameAt, pointer_target, read_octet, prepend_label, at_pointer}
use Rattle.dns_names.specs.Places.{labels_in_steps, read_labels, name_at}
use Rattle.dns_names.proofs.Steps.{labels_in_steps-step, reads_end, reads_zero, reads_long, reads_short, reads_label}
use Rattle.dns_names.proofs.Steps.{reads_other, reads_half, reads_forward, reads_pointer}

-- the wire form has its zero octet
wire_some : (n : List (List ℕ)) → 0 < length (wire n)
wire_some [] = omega arith
wire_some (label ∷ n) = omega arith

-- where an octet says no fault, it is one of three
pub data Says (m : List ℕ) (r p e size : ℕ) (label pointer : LabelsRead) (x : List (List ℕ) × ℕ) : Type 0 where
  says_end : p < e → slice_index m p ≡ 0 → x ≡ ([], p + 1) → Says m r p e size label pointer x
  says_label : p < e → 0 < slice_index m p → slice_index m p < 64 → size + slice_index m p + 1 ≤ 255
      → p + 1 + slice_index m p ≤ e → prepend_label (slice_range m (p + 1) (p + 1 + slice_index m p)) label ≡ Ok x
      → Says m r p e size label pointer x
  says_pointer : p < e → 192 ≤ slice_index m p → p + 2 ≤ e → pointer_target m p < r → at_pointer (p + 2) pointer ≡ Ok x
      → Says m r p e size label pointer x

pub ok_is : (x y : List (List ℕ) × ℕ) → ◌≡◌ {A = LabelsRead} (Ok x) (Ok y) → x ≡ y
ok_is x y h = cc

module _ (m : List ℕ) (r p e size : ℕ) (label pointer : LabelsRead) (x : List (List ℕ) × ℕ)
    (h : read_octet m r p e size label pointer ≡ Ok x) where
  no_fault : (f : DecodeError) → read_octet m r p e size label pointer ≡ Err f → ⊥
  no_fault f g = let both : ◌≡◌ {A = LabelsRead} (Ok x) (Err f) = sym h ∙ g in cc

  reads_label_octet : p < e → 0 < slice_index m p → slice_index m p < 64 → Says m r p e size label pointer x
  reads_label_octet lt some few =
      elim (cases_lt 255 (size + slice_index m p + 1)) [
        | inl long ↦ absurd (no_fault NameMalformed (reads_long m r p e size label pointer lt some few long))
        | inr fits ↦ elim (cases_lt e (p + 1 + slice_index m p)) [
          | inl short ↦ absurd (no_fault InsufficientBytes
              (reads_short m r p e size label pointer lt some few fits short))
          | inr behind ↦ says_label lt some few fits behind
              (sym (reads_label m r p e size label pointer lt some few fits behind) ∙ h)
        ]
      ]

  reads_pointer_octet : p < e → 192 ≤ slice_index m p → Says m r p e size label pointer x
  reads_pointer_octet lt high =
      elim (cases_lt e (p + 2)) [
        | inl half ↦ absurd (no_fault InsufficientBytes (reads_half m r p e size label pointer lt high half))
        | inr within ↦ elim (cases_lt (pointer_target m p) r) [
          | inl back ↦ says_pointer lt high within back
              (sym (reads_pointer m r p e size label pointer lt high within back) ∙ h)
          | inr forward ↦ absurd (no_fault NameMalformed
              (reads_forward m r p e size label pointer lt high within forward))
        ]
      ]

  pub says : Says m r p e size label pointer x
  says =
      elim (cases_lt p e) [
        | inr past ↦ absurd (no_fault InsufficientBytes (reads_end m r p e size label pointer past))
        | inl lt ↦ elim (cases_lt 0 (slice_index m p)) [
          | inr none ↦ let z : slice_index m p ≡ 0 = omega arith in says_end lt z
              (ok_is x ([], p + 1) (sym h ∙ reads_zero m r p e size label pointer lt z))
          | inl some ↦ elim (cases_lt (slice_index m p) 64) [
            | inl few ↦ reads_label_octet lt some few
            | inr more ↦ elim (cases_lt (slice_index m p) 192) [
              | inl other ↦ absurd (no_fault NameMalformed (reads_other m r p e size label pointer lt more other))
              | inr high ↦ reads_pointer_octet lt high
            ]
          ]
        ]
      ]

-- what is behind a label was read
prepend_label_ok : (label : List ℕ) (o : LabelsRead) (x : List (List ℕ) × ℕ) → prepend_label label o ≡ Ok x
    → (y : List (List ℕ) × ℕ) × (o ≡ Ok y) × (x.0 ≡ label ∷ y.0) × (x.1 ≡ y.1)
prepend_label_ok label (Ok y) x h = let e = ok_is (label ∷ y.0, y.1) x h in
    (y, refl, sym (ap (λ z. z.0) e), sym (ap (λ z. z.1) e))
prepend_label_ok label (Err f) x h = absurd (cc)

at_pointer_ok : (q : ℕ) (o : LabelsRead) (x : List (List ℕ) × ℕ) → at_pointer q o ≡ Ok x
    → (y : List (List ℕ) × ℕ) × (o ≡ Ok y) × (x.0 ≡ y.0) × (x.1 ≡ q)
at_pointer_ok q (Ok y) x h = let e = ok_is (y.0, q) x h in (y, refl, sym (ap (λ z. z.0) e), sym (ap (λ z. z.1) e))
at_pointer_ok q (Err f) x h = absurd (cc)

-- a label that ends within the string has its length
label_len : (m : List ℕ) (p e k : ℕ) → e ≤ length m → p + 1 + k ≤ e → length (slice_range m (p + 1) (p + 1 + k)) ≡ k
label_len m p e k within behind = omega (arith, length-between m (p + 1) (p + 1 + k))

-- what is read stands there
pub labels_at_sound : (k : ℕ) (m : List ℕ) (r p e size : ℕ) (n : List (List ℕ)) (q : ℕ) → e ≤ length m → size ≤ 255
    → labels_in_steps k m r p e size ≡ Ok (n, q) → Labels m r p e n q × (size + length (wire n) ≤ 256)
unfolding labels_in_steps
labels_at_sound zero m r p e size n q within small h = absurd (cc)
labels_at_sound (suc k) m r p e size n q within small h =
    elim (says m r p e size (labels_in_steps k m r (p + 1 + slice_index m p) e (size + 1 + slice_index m p))
    (labels_in_steps k m (pointer_target m p) (pointer_target m p) (length m) size) (n, q) h) [
      | says_end lt z is ↦
          let root : n ≡ [] = ap (λ x. x.0) is in
          (Labels.root lt z root (ap (λ x. x.1) is), rw root (omega arith))
      | says_label lt some few fits behind is ↦
          let y = prepend_label_ok (slice_range m (p + 1) (p + 1 + slice_index m p))
          (labels_in_steps k m r (p + 1 + slice_index m p) e (size + 1 + slice_index m p)) (n, q) is in
          let rest = labels_at_sound k m r (p + 1 + slice_index m p) e (size + 1 + slice_index m p) y.0.0 y.0.1 within
          (omega arith) y.1 in
          let len : length (slice_range m (p + 1) (p + 1 + slice_index m p))
          ≡ slice_index m p = label_len m p e (slice_index m p) within behind in
          let longer : length (wire n) ≡ 1 + slice_index m p + length (wire y.0.0) = ap (λ z. length (wire z)) y.2
          ∙ omega (arith, length-append (slice_range m (p + 1) (p + 1 + slice_index m p)) (wire y.0.0), len) in (
            Labels.label lt some few refl behind y.2
                (subst (λ z. Labels m r (p + 1 + slice_index m p) e y.0.0 z) (sym y.3) rest.0),
            omega
                (arith, rest.1, longer),
          )
      | says_pointer lt high half back is ↦
          let y = at_pointer_ok (p + 2) (labels_in_steps k m (pointer_target m p) (pointer_target m p) (length m) size)
          (n, q) is in
          let rest = labels_at_sound k m (pointer_target m p) (pointer_target m p) (length m) size y.0.0 y.0.1
          (omega arith) small y.1 in (
            Labels.pointer lt high half refl back y.3
                (subst (λ z. Labels m (pointer_target m p) (pointer_target m p) (length m) z y.0.1) (sym y.2) rest.0),
            subst (λ z. size + length (wire z) ≤ 256) (sym y.2) rest.1,
          )
    ]

-- what stands there is read
pub labels_at_complete : {m : List ℕ} {r p e : ℕ} {n : List (List ℕ)} {q : ℕ} → Labels m r p e n q → (k size : ℕ)
    → e ≤ length m → size + length (wire n) ≤ 256 → 256 * r + 257 ≤ k + size
    → labels_in_steps k m r p e size ≡ Ok (n, q)
labels_at_complete {m} {r} {p} {e} {n} {q} (Labels.root lt z n_is q_is) k size within fits enough =
    labels_in_steps-step k m r p e size (omega (arith, wire_some n)) ∙ reads_zero m r p e size _ _ lt z
    ∙ ap (λ x. Ok x) (λ i. (sym n_is i, sym q_is i))
labels_at_complete {m} {r} {p} {e} {n} {q} (Labels.label {behind = behind} {others = n1} lt some few behind_is
    within_end n_is rest) k size within fits enough =
    let len : length (slice_range m (p + 1) behind)
    ≡ slice_index m p = rw behind_is (label_len m p e (slice_index m p) within (omega arith)) in
    let longer : length (wire n) ≡ 1 + slice_index m p + length (wire n1) = ap (λ z. length (wire z)) n_is
    ∙ omega (arith, length-append (slice_range m (p + 1) behind) (wire n1), len) in
    let small : size + slice_index m p + 1 ≤ 255 = omega (arith, wire_some n1, longer) in
    let next : labels_in_steps (k - 1) m r behind e (size + 1 + slice_index m p)
    ≡ Ok (n1, q) = labels_at_complete rest (k - 1) (size + 1 + slice_index m p) within (omega (arith, longer))
    (omega (arith, wire_some n)) in
    labels_in_steps-step k m r p e size (omega (arith, wire_some n))
    ∙ reads_label m r p e size _ _ lt some few small (omega arith)
    ∙ ap (λ b. prepend_label (slice_range m (p + 1) b) (labels_in_steps (k - 1) m r b e (size + 1 + slice_index m p)))
    (sym behind_is)
    ∙ ap (prepend_label (slice_range m (p + 1) behind)) next ∙ ap (λ z. Ok (z, q)) (sym n_is)
labels_at_complete {m} {r} {p} {e} {n} {q} (Labels.pointer {target = t} {last = q1} lt high half t_is back q_is rest) k
    size within fits enough =
    let next : labels_in_steps (k - 1) m t t (length m) size
    ≡ Ok (n, q1) = labels_at_complete rest (k - 1) size (omega arith) fits (omega (arith, wire_some n)) in
    labels_in_steps-step k m r p e size (omega (arith, wire_some n))
    ∙ reads_pointer m r p e size _ _ lt high half (rw (← t_is) back)
    ∙ ap (λ b. at_pointer (p + 2) (labels_in_steps (k - 1) m b b (length m) size)) (sym t_is)
    ∙ ap (at_pointer (p + 2)) next ∙ ap (λ z. Ok (n, z)) (sym q_is)

-- the place behind the first run lies within its end
pub labels_next : {m : List ℕ} {r p e : ℕ} {n : List (List ℕ)} {q : ℕ} → Labels m r p e n q → q ≤ e
labels_next (Labels.root lt z n_is q_is) = omega arith
labels_next (Labels.label lt some few behind_is within_end n_is rest) = labels_next rest
labels_next (Labels.pointer lt high half t_is back q_is rest) = omega arith

-- what reading gives, exactly where a name stands at the place
pub name_at_sound : (m : List ℕ) (p e : ℕ) (n : List (List ℕ)) (q : ℕ) → e ≤ length m → name_at m p e ≡ Ok (n, q)
    → NameAt m p e n q
unfolding name_at
name_at_sound m p e n q within h =
    let s = labels_at_sound (256 * p + 257) m p p e 1 n q within (omega arith) h in
    record { within = within; at_most_255 = omega (arith, s.1); labels = s.0 }

pub name_at_complete : (m : List ℕ) (p e : ℕ) (n : List (List ℕ)) (q : ℕ) → NameAt m p e n q → name_at m p e ≡ Ok (n, q)
unfolding name_at
name_at_complete m p e n q h = labels_at_complete h.labels (256 * p + 257) 1 h.within (omega (arith, h.at_most_255))
    (omega arith)

pub labels_forward : {m : List ℕ} {r p e : ℕ} {n : List (List ℕ)} {q : ℕ} → Labels m r p e n q → p < q
labels_forward (Labels.root lt z n_is q_is) = omega arith
labels_forward (Labels.label lt some few behind_is within_end n_is rest) = omega (arith, labels_forward rest)
labels_forward (Labels.pointer lt high half t_is back q_is rest) = omega arith

-- the name that was skipped, and where the place behind it lies
pub record Skipped (m : List ℕ) (p e q : ℕ) : Type 0 where
  pub name : List (List ℕ)
  pub stands : NameAt m p e name q
  pub forward : p < q
  pub inside : q ≤ e

pub skipped : (m : List ℕ) (p e q : ℕ) → e ≤ length m → without_value (name_at m p e) ≡ Ok (tt, q) → Skipped m p e q
skipped m p e q within h = at (name_at m p e) refl h
  where
    place_or_0 : Result (Unit {0} × ℕ) DecodeError → ℕ
    place_or_0 (Ok x) = x.1
    place_or_0 (Err f) = 0

    at : (o : LabelsRead) → name_at m p e ≡ o → without_value o ≡ Ok (tt, q) → Skipped m p e q
    at (Ok x) e1 h =
        let read : name_at m p e ≡ Ok (x.0, q) = e1 ∙ ap (λ t. Ok (x.0, t)) (ap place_or_0 h) in
        let stands = name_at_sound m p e x.0 q within read in
        record {
          name = x.0;
          stands = stands;
          forward = labels_forward stands.labels;
          inside = labels_next
              stands.labels;
        }
    at (Err f) e1 h = absurd (cc)

-- a fault is none of a name
pub no_name_skipped : (o : LabelsRead) (f : DecodeError) (x : List (List ℕ) × ℕ) → without_value o ≡ Err f → o ≡ Ok x
    → ⊥
no_name_skipped (Ok y) f x h e = cc
no_name_skipped (Err g) f x h e = cc

-- one name stands at a place, and one place is behind it
pub name_at_one : (m : List ℕ) (p e : ℕ) (n z : List (List ℕ)) (q t : ℕ) → NameAt m p e n q → NameAt m p e z t
    → (n ≡ z) × (q ≡ t)
name_at_one m p e n z q t a b =
    let same = ok_is (n, q) (z, t) (sym (name_at_complete m p e n q a) ∙ name_at_complete m p e z t b) in
    (ap (λ x. x.0) same, ap (λ x. x.1) same)

-- a part of an octet string is one
octets_take : (k : ℕ) (m : List ℕ) → AreOctets m → AreOctets (take k m)
octets_take zero m h = tt
octets_take (suc k) [] h = tt
octets_take (suc k) (x ∷ m) h = (h.0, octets_take k m h.1)

octets_drop : (k : ℕ) (m : List ℕ) → AreOctets m → AreOctets (drop k m)
octets_drop zero m h = h
octets_drop (suc k) [] h = tt
octets_drop (suc k) (x ∷ m) h = octets_drop k m h.1

-- what stands in an octet string are labels
labels_are : {m : List ℕ} {r p e : ℕ} {n : List (List ℕ)} {q : ℕ} → AreOctets m → e ≤ length m → Labels m r p e n q
    → AllByRecursion IsLabel n
labels_are {m} {r} {p} {e} {n} {q} octets within (Labels.root lt z n_is q_is) = rw n_is tt
labels_are {m} {r} {p} {e} {n} {q} octets within (Labels.label {behind = behind} {others = n1} lt some few behind_is
    within_end n_is rest) =
    let len : length (slice_range m (p + 1) behind)
    ≡ slice_index m p = rw behind_is (label_len m p e (slice_index m p) within (omega arith)) in
    let first : IsLabel (slice_range m (p + 1) behind) = record {
      nonempty = omega (arith, len);
      at_most_63 = omega
          (arith, len);
      octets = octets_take (behind - (p + 1)) (drop (p + 1) m) (octets_drop (p + 1) m octets);
    } in
    rw n_is (first, labels_are octets within rest)
labels_are {m} {r} {p} {e} {n} {q} octets within (Labels.pointer lt high half t_is back q_is rest) = labels_are octets
    (omega arith) rest

-- what stands in an octet string is a name
pub name_of_octets : (m : List ℕ) (p e : ℕ) (n : List (List ℕ)) (q : ℕ) → AreOctets m → NameAt m p e n q → IsName n
name_of_octets m p e n q octets h = record { each = labels_are octets h.within h.labels; at_most_255 = h.at_most_255 }

-- what an octet says depends on what is read behind it only where that is read
read_octet_alike : (m : List ℕ) (r p e size : ℕ) (l t l1 t1 : LabelsRead)
    → (0 < slice_index m p → size + slice_index m p + 1 ≤ 255 → l ≡ l1) → (pointer_target m p < r → t ≡ t1)
    → read_octet m r p e size l t ≡ read_octet m r p e size l1 t1
read_octet_alike m r p e size l t l1 t1 label pointer =
    elim (cases_lt p e) [
      | inr past ↦ reads_end m r p e size l t past ∙ sym (reads_end m r p e size l1 t1 past)
      | inl lt ↦ elim (cases_lt 0 (slice_index m p)) [
        | inr none ↦ let z : slice_index m p ≡ 0 = omega arith in reads_zero m r p e size l t lt z
            ∙ sym (reads_zero m r p e size l1 t1 lt z)
        | inl some ↦ elim (cases_lt (slice_index m p) 64) [
          | inl few ↦ at_label lt some few
          | inr more ↦ elim (cases_lt (slice_index m p) 192) [
            | inl other ↦ reads_other m r p e size l t lt more other
                ∙ sym (reads_other m r p e size l1 t1 lt more other)
            | inr high ↦ at_pointer_octet lt high
          ]
        ]
      ]
    ]
  where
    at_label : p < e → 0 < slice_index m p → slice_index m p < 64
        → read_octet m r p e size l t ≡ read_octet m r p e size l1 t1
    at_label lt some few =
        elim (cases_lt 255 (size + slice_index m p + 1)) [
          | inl long ↦ reads_long m r p e size l t lt some few long
              ∙ sym (reads_long m r p e size l1 t1 lt some few long)
          | inr fits ↦ elim (cases_lt e (p + 1 + slice_index m p)) [
            | inl short ↦ reads_short m r p e size l t lt some few fits short
                ∙ sym (reads_short m r p e size l1 t1 lt some few fits short)
            | inr behind ↦ reads_label m r p e size l t lt some few fits behind
                ∙ ap (prepend_label (slice_range m (p + 1) (p + 1 + slice_index m p))) (label some fits)
                ∙ sym (reads_label m r p e size l1 t1 lt some few fits behind)
          ]
        ]

    at_pointer_octet : p < e → 192 ≤ slice_index m p → read_octet m r p e size l t ≡ read_octet m r p e size l1 t1
    at_pointer_octet lt high =
        elim (cases_lt e (p + 2)) [
          | inl half ↦ reads_half m r p e size l t lt high half ∙ sym (reads_half m r p e size l1 t1 lt high half)
          | inr within ↦ elim (cases_lt (pointer_target m p) r) [
            | inl back ↦ reads_pointer m r p e size l t lt high within back ∙ ap (at_pointer (p + 2)) (pointer back)
                ∙ sym (reads_pointer m r p e size l1 t1 lt high within back)
            | inr forward ↦ reads_forward m r p e size l t lt high within forward
                ∙ sym (reads_forward m r p e size l1 t1 lt high within forward)
          ]
        ]

-- steps beyond those that are enough change nothing
steps_enough : (k j : ℕ) (m : List ℕ) (r p e size : ℕ) → size ≤ 255 → 256 * r + 257 ≤ k + size
    → 256 * r + 257 ≤ j + size → labels_in_steps k m r p e size ≡ labels_in_steps j m r p e size
steps_enough zero j m r p e size small a b = absurd (omega arith)
steps_enough (suc k) j m r p e size small a b =
    let back : k ≡ suc k - 1 = omega arith in
    labels_in_steps-step (suc k) m r p e size (omega arith)
    ∙ ap (λ i. read_octet m r p e size (labels_in_steps i m r (p + 1 + slice_index m p) e (size + 1 + slice_index m p))
    (labels_in_steps i m (pointer_target m p) (pointer_target m p) (length m) size)) (sym back)
    ∙ read_octet_alike m r p e size _ _ _ _
    (λ some fits. steps_enough k (j - 1) m r (p + 1 + slice_index m p) e (size + 1 + slice_index m p) (omega arith)
    (omega arith) (omega arith))
    (λ earlier. steps_enough k (j - 1) m (pointer_target m p) (pointer_target m p) (length m) size small (omega arith)
    (omega arith))
    ∙ sym (labels_in_steps-step j m r p e size (omega arith))

-- reading goes by octets
pub read_labels-octet : (m : List ℕ) (r p e size : ℕ) → size ≤ 255
    → read_labels m r p e size ≡ read_octet m r p e size
    (read_labels m r (p + 1 + slice_index m p) e (size + 1 + slice_index m p))
    (read_labels m (pointer_target m p) (pointer_target m p) (length m) size)
read_labels-octet m r p e size small =
    labels_in_steps-step (256 * r + 257) m r p e size (omega arith)
    ∙ read_octet_alike m r p e size _ _ _ _
    (λ some fits. steps_enough (256 * r + 257 - 1) (256 * r + 257) m r (p + 1 + slice_index m p) e
    (size + 1 + slice_index m p) (omega arith) (omega arith) (omega arith))
    (λ earlier. steps_enough (256 * r + 257 - 1) (256 * pointer_target m p + 257) m (pointer_target m p)
    (pointer_target m p) (length m) size small (omega arith) (omega arith))
