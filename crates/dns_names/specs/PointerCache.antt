-- Where chains of pointers lead (RFC 1035 4.1.4).
use Rattle.std.specs.Prelude.{◌≡◌, ℕ, ◌+◌, ◌-◌, ◌≤◌, List, length, slice_index, Result, Ok, Err}
use Rattle.dns_wire.specs.declared.error.DecodeError.{DecodeError}
use Rattle.dns_names.specs.Places.{LabelsRead, pointer_target, read_labels}

-- the labels that were read, or the fault
abbrev pub labels_read : LabelsRead → Result (List (List ℕ)) DecodeError
labels_read (Ok x) = Ok x.0
labels_read (Err fault) = Err fault

-- A pointer to `place` says what one to `target` says, which is that place or lies before it: the same labels or the
-- same fault, however many octets the name has before.
pub record LeadsTo (m : List ℕ) (place target : ℕ) : Type 0 where
  pub back : target ≤ place
  pub same :
      (size : ℕ) → size ≤ 255
      → labels_read (read_labels m place place (length m) size)
      ≡ labels_read (read_labels m target target (length m) size)

-- no pointer stands at the place that leads back, so a chain of pointers ends there
abbrev pub IsEnd : List ℕ → ℕ → Type 0
IsEnd m place = place + 2 ≤ length m → 192 ≤ slice_index m place → place ≤ pointer_target m place

-- each number says how far its place leads back
pub record IsPointerCache (m : List ℕ) (cache : List ℕ) : Type 0 where
  pub before : (place : ℕ) → slice_index cache place ≤ place
  pub leads : (place : ℕ) → LeadsTo m place (place - slice_index cache place)
