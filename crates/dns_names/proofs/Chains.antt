-- Chains of pointers, and names read label by label.
use Rattle.std.proofs.Common.{◌≡◌, ℕ, zero, suc, ◌+◌, ◌-◌, ◌*◌, ◌<◌, ◌≤◌, List, [], ◌∷◌, ◌++◌, length, replicate}
use Rattle.std.proofs.Common.{append_assoc, append-nil, slice_index, slice_range, refl, ap, sym, subst, ◌∙◌, arith}
use Rattle.std.proofs.Common.{Result, Ok, Err, Option, Some, None, unwrap_or}
use Rattle.std.specs.Option.{option_or}
use Rattle.dns_wire.specs.declared.error.DecodeError.{DecodeError}
use Rattle.dns_wire.specs.declared.error.DecodeError.TheVariants.{InsufficientBytes, NameMalformed}
use Rattle.dns_names.specs.Places.{LabelsRead, pointer_target, read_octet, prepend_label, at_pointer, read_labels}
use Rattle.dns_names.specs.Places.{name_at}
use Rattle.dns_names.specs.PointerCache.{labels_read, LeadsTo, IsPointerCache}
use Rattle.dns_names.specs.LabelReading.{with_next}
use Rattle.dns_names.specs.Skipping.{without_value}
use Rattle.dns_names.proofs.Steps.{reads_end, reads_zero, reads_long, reads_short, reads_label, reads_other, reads_half}
use Rattle.dns_names.proofs.Steps.{reads_forward, reads_pointer}
use Rattle.dns_names.proofs.NamePush.{length-wire-push}
use Rattle.dns_names.proofs.PlaceLaws.{read_labels-octet}

-- ---- chains

pub leads-self : (m : List ℕ) (t : ℕ) → LeadsTo m t t
leads-self m t = record { back = omega arith; same = λ size small. refl }

pub leads-on : {m : List ℕ} {t u v : ℕ} → LeadsTo m t u → LeadsTo m u v → LeadsTo m t v
leads-on a b = record {
  back = omega (arith, a.back, b.back);
  same = λ size small. a.same size small
      ∙ b.same size small;
}

-- two places of one chain, the later one first
pub leads-between : {m : List ℕ} {t u v : ℕ} → LeadsTo m t v → LeadsTo m t u → v ≤ u → LeadsTo m u v
leads-between a b le = record { back = le; same = λ size small. sym (b.same size small) ∙ a.same size small }

labels_read-at_pointer : (q : ℕ) (o : LabelsRead) → labels_read (at_pointer q o) ≡ labels_read o
labels_read-at_pointer q (Ok x) = refl
labels_read-at_pointer q (Err fault) = refl

-- a pointer that leads back leads to its target
pub leads-pointer : (m : List ℕ) (t : ℕ) → t + 2 ≤ length m → 192 ≤ slice_index m t → pointer_target m t < t
    → LeadsTo m t (pointer_target m t)
leads-pointer m t within high before = record {
  back = omega arith;
  same = λ size small. ap labels_read (read_labels-octet m t t (length m) size small
      ∙ reads_pointer m t t (length m) size _ _ (omega arith) high within before) ∙ labels_read-at_pointer (t + 2) _;
}

-- an entry leads where it says
pub leads-cached : {m cache : List ℕ} (all : IsPointerCache m cache) (t : ℕ) → LeadsTo m t (t - slice_index cache t)
leads-cached all t = all.leads t

-- an empty table, each of whose places leads to itself
none_at : (n t : ℕ) → slice_index (replicate n 0) t ≡ 0
none_at zero t = refl
none_at (suc n) zero = refl
none_at (suc n) (suc t) = none_at n t

pub cache_none : (m : List ℕ) (n : ℕ) → IsPointerCache m (replicate n 0)
cache_none m n = record {
  before = λ t. omega (arith, none_at n t);
  leads = λ t. let stays : t ≡ t - slice_index (replicate n 0) t = omega (arith, none_at n t) in subst
      (λ u. LeadsTo m t u) stays (leads-self m t);
}

pub ruleset steps = (leads-self, leads-on, leads-between, leads-pointer, leads-cached)

-- ---- one step

-- the place behind the first run is that behind its first pointer
with_next-at_pointer : (next : Option ℕ) (q : ℕ) (o : LabelsRead)
    → with_next next (at_pointer q o) ≡ with_next (option_or next (Some q)) o
with_next-at_pointer None q (Ok x) = refl
with_next-at_pointer None q (Err fault) = refl
with_next-at_pointer (Some p) q (Ok x) = refl
with_next-at_pointer (Some p) q (Err fault) = refl

with_next-prepend_label : (next : Option ℕ) (label : List ℕ) (o : LabelsRead)
    → with_next next (prepend_label label o) ≡ prepend_label label (with_next next o)
with_next-prepend_label next label (Ok x) = refl
with_next-prepend_label next label (Err fault) = refl

with_next-none : (o : LabelsRead) → with_next None o ≡ o
with_next-none (Ok x) = refl
with_next-none (Err fault) = refl

-- behind a pointer the place that is read last counts for nothing
abbrev placed : ℕ → Result (List (List ℕ)) DecodeError → LabelsRead
placed q (Ok n) = Ok (n, q)
placed q (Err fault) = Err fault

with_next-given : (next : Option ℕ) (q : ℕ) (o : LabelsRead)
    → with_next (option_or next (Some q)) o ≡ placed (unwrap_or next q) (labels_read o)
with_next-given None q (Ok x) = refl
with_next-given None q (Err fault) = refl
with_next-given (Some p) q (Ok x) = refl
with_next-given (Some p) q (Err fault) = refl

pub begins : (m : List ℕ) (place end : ℕ) → with_next None (read_labels m place place end 1) ≡ name_at m place end
unfolding name_at
begins m place end = with_next-none (read_labels m place place end 1)

module _ (m : List ℕ) (run place end size : ℕ) (next : Option ℕ) (fits : size ≤ 255) where
  abbrev here : LabelsRead
  here = with_next next (read_labels m run place end size)

  abbrev on_label : LabelsRead
  on_label = read_labels m run (place + 1 + slice_index m place) end (size + 1 + slice_index m place)

  abbrev on_pointer : LabelsRead
  on_pointer = read_labels m (pointer_target m place) (pointer_target m place) (length m) size

  octet : read_labels m run place end size ≡ read_octet m run place end size on_label on_pointer
  octet = read_labels-octet m run place end size fits

  pub stops_end : end ≤ place → here ≡ Err InsufficientBytes
  stops_end h = ap (with_next next) (octet ∙ reads_end m run place end size on_label on_pointer h)

  pub stops_zero : place < end → slice_index m place ≡ 0 → here ≡ Ok ([], unwrap_or next (place + 1))
  stops_zero h z = ap (with_next next) (octet ∙ reads_zero m run place end size on_label on_pointer h z)

  pub stops_long : place < end → 0 < slice_index m place → slice_index m place < 64
      → 255 < size + slice_index m place + 1 → here ≡ Err NameMalformed
  stops_long h a b c = ap (with_next next) (octet ∙ reads_long m run place end size on_label on_pointer h a b c)

  pub stops_short : place < end → 0 < slice_index m place → slice_index m place < 64
      → size + slice_index m place + 1 ≤ 255 → end < place + 1 + slice_index m place → here ≡ Err InsufficientBytes
  stops_short h a b c d = ap (with_next next) (octet ∙ reads_short m run place end size on_label on_pointer h a b c d)

  pub stops_other : place < end → 64 ≤ slice_index m place → slice_index m place < 192 → here ≡ Err NameMalformed
  stops_other h a b = ap (with_next next) (octet ∙ reads_other m run place end size on_label on_pointer h a b)

  pub stops_half : place < end → 192 ≤ slice_index m place → end < place + 2 → here ≡ Err InsufficientBytes
  stops_half h a b = ap (with_next next) (octet ∙ reads_half m run place end size on_label on_pointer h a b)

  pub stops_forward : place < end → 192 ≤ slice_index m place → place + 2 ≤ end → run ≤ pointer_target m place
      → here ≡ Err NameMalformed
  stops_forward h a b c = ap (with_next next) (octet ∙ reads_forward m run place end size on_label on_pointer h a b c)

  -- behind a label
  pub label_on :
      place < end → 0 < slice_index m place → slice_index m place < 64 → size + slice_index m place + 1 ≤ 255
      → place + 1 + slice_index m place ≤ end
      → here ≡ prepend_label (slice_range m (place + 1) (place + 1 + slice_index m place))
      (with_next next (read_labels m run (place + 1 + slice_index m place) end (size + (slice_index m place + 1))))
  label_on h some few small behind =
      let longer : size + 1 + slice_index m place ≡ size + (slice_index m place + 1) = omega arith in
      ap (with_next next) (octet ∙ reads_label m run place end size on_label on_pointer h some few small behind)
      ∙ with_next-prepend_label next (slice_range m (place + 1) (place + 1 + slice_index m place)) on_label
      ∙ ap (λ s. prepend_label (slice_range m (place + 1) (place + 1 + slice_index m place))
      (with_next next (read_labels m run (place + 1 + slice_index m place) end s))) longer

  -- where the target of a pointer leads
  pub pointer_on :
      (u : ℕ) → place < end → 192 ≤ slice_index m place → place + 2 ≤ end → pointer_target m place < run
      → LeadsTo m (pointer_target m place) u
      → here ≡ with_next (option_or next (Some (place + 2))) (read_labels m u u (length m) size)
  pointer_on u h pointer within back leads =
      ap (with_next next) (octet ∙ reads_pointer m run place end size on_label on_pointer h pointer within back)
      ∙ with_next-at_pointer next (place + 2) on_pointer
      ∙ with_next-given next (place + 2) on_pointer
      ∙ ap (placed (unwrap_or next (place + 2))) (leads.same size fits)
      ∙ sym (with_next-given next (place + 2) (read_labels m u u (length m) size))

pub ruleset exits = (
  stops_end,
  stops_zero,
  stops_long,
  stops_short,
  stops_other,
  stops_half,
  stops_forward,
  label_on,
  pointer_on,
)

-- ---- all steps

-- the whole, where these labels were read before
abbrev pub whole : List (List ℕ) → LabelsRead → LabelsRead
whole front (Ok x) = Ok (front ++ x.0, x.1)
whole front (Err fault) = Err fault

-- a label moves from what is read to what was read
pub whole-prepend_label : (front : List (List ℕ)) (label : List ℕ) (o : LabelsRead)
    → whole front (prepend_label label o) ≡ whole (front ++ label ∷ []) o
whole-prepend_label front label (Ok x) = ap (λ n. Ok (n, x.1)) (sym (append_assoc front (label ∷ []) x.0))
whole-prepend_label front label (Err fault) = refl

pub whole-none : (o : LabelsRead) → whole [] o ≡ o
whole-none (Ok x) = refl
whole-none (Err fault) = refl

pub without_value-prepend_label : (label : List ℕ) (o : LabelsRead)
    → without_value (prepend_label label o) ≡ without_value o
without_value-prepend_label label (Ok x) = refl
without_value-prepend_label label (Err fault) = refl

pub ruleset reading = (whole-prepend_label, whole-none, append-nil, length-wire-push)

pub ruleset skipping = (without_value-prepend_label)
