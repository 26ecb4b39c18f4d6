-- One step of reading a name.
use Rattle.std.proofs.Common.{◌≡◌, ℕ, zero, suc, ◌+◌, ◌-◌, ◌<◌, ◌≤◌, List, [], length, slice_index, slice_range, ap}
use Rattle.std.proofs.Common.{arith, Ok, Err}
use Rattle.std.proofs.lemmas.Bool.Decides.{nat_tests}
use Rattle.dns_wire.specs.declared.error.DecodeError.TheVariants.{InsufficientBytes, NameMalformed}
use Rattle.dns_names.specs.Places.{LabelsRead, pointer_target, read_octet, prepend_label, at_pointer, labels_in_steps}

pub labels_in_steps-step : (k : ℕ) (m : List ℕ) (r p e size : ℕ) → 0 < k
    → labels_in_steps k m r p e size
    ≡ read_octet m r p e size (labels_in_steps (k - 1) m r (p + 1 + slice_index m p) e (size + 1 + slice_index m p))
    (labels_in_steps (k - 1) m (pointer_target m p) (pointer_target m p) (length m) size)
unfolding labels_in_steps
labels_in_steps-step zero m r p e size h = absurd (omega arith)
labels_in_steps-step (suc k) m r p e size h =
    let back : k ≡ suc k - 1 = omega arith in
    ap (λ j. read_octet m r p e size (labels_in_steps j m r (p + 1 + slice_index m p) e (size + 1 + slice_index m p))
    (labels_in_steps j m (pointer_target m p) (pointer_target m p) (length m) size)) back

module _ (m : List ℕ) (r p e size : ℕ) (label pointer : LabelsRead) where
  pub reads_end : e ≤ p → read_octet m r p e size label pointer ≡ Err InsufficientBytes
  reads_end h = grind (arith, nat_tests)

  pub reads_zero : p < e → slice_index m p ≡ 0 → read_octet m r p e size label pointer ≡ Ok ([], p + 1)
  reads_zero h z = grind (arith, nat_tests)

  pub reads_long : p < e → 0 < slice_index m p → slice_index m p < 64 → 255 < size + slice_index m p + 1
      → read_octet m r p e size label pointer ≡ Err NameMalformed
  reads_long h a b c = grind (arith, nat_tests)

  pub reads_short : p < e → 0 < slice_index m p → slice_index m p < 64 → size + slice_index m p + 1 ≤ 255
      → e < p + 1 + slice_index m p → read_octet m r p e size label pointer ≡ Err InsufficientBytes
  reads_short h a b c d = grind (arith, nat_tests)

  pub reads_label : p < e → 0 < slice_index m p → slice_index m p < 64 → size + slice_index m p + 1 ≤ 255
      → p + 1 + slice_index m p ≤ e → read_octet m r p e size label pointer
      ≡ prepend_label (slice_range m (p + 1) (p + 1 + slice_index m p)) label
  reads_label h a b c d = grind (arith, nat_tests)

  pub reads_other : p < e → 64 ≤ slice_index m p → slice_index m p < 192
      → read_octet m r p e size label pointer ≡ Err NameMalformed
  reads_other h a b = grind (arith, nat_tests)

  pub reads_half : p < e → 192 ≤ slice_index m p → e < p + 2
      → read_octet m r p e size label pointer ≡ Err InsufficientBytes
  reads_half h a b = grind (arith, nat_tests)

  pub reads_forward : p < e → 192 ≤ slice_index m p → p + 2 ≤ e → r ≤ pointer_target m p
      → read_octet m r p e size label pointer ≡ Err NameMalformed
  reads_forward h a b c = grind (arith, nat_tests)

  pub reads_pointer : p < e → 192 ≤ slice_index m p → p + 2 ≤ e → pointer_target m p < r
      → read_octet m r p e size label pointer ≡ at_pointer (p + 2) pointer
  reads_pointer h a b c = grind (arith, nat_tests)
