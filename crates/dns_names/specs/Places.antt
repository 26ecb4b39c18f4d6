-- Names at places of an octet string, with pointers (RFC 1035 4.1.4).
use Rattle.std.specs.Prelude.{◌≡◌, ℕ, zero, suc, ◌+◌, ◌*◌, ◌%◌, ◌^◌, ◌<◌, ◌≤◌, List, [], ◌∷◌, length, slice_index}
use Rattle.std.specs.Prelude.{slice_range, nat_lt, nat_le, nat_eq, if◌then◌else◌, Result, Ok, Err}
use Rattle.dns_names.specs.Names.{wire}
use Rattle.dns_wire.specs.declared.error.DecodeError.{DecodeError}
use Rattle.dns_wire.specs.declared.error.DecodeError.TheVariants.{InsufficientBytes, NameMalformed}

-- the place that a pointer names: the low 14 bits of its two octets
abbrev pub pointer_target : List ℕ → ℕ → ℕ
pointer_target m place = (slice_index m place * 256 + slice_index m (place + 1)) % 2 ^ 14

-- The labels n stand at `place` of m, in a run that begins at `run` and ends at or before `end`; `next` is the place
-- behind the run.
pub data Labels (m : List ℕ) : ℕ → ℕ → ℕ → List (List ℕ) → ℕ → Type 0 where
  -- a zero octet ends the name
  root :
      {run place end : ℕ} {n : List (List ℕ)} {next : ℕ}
      → place < end
      → slice_index m place ≡ 0
      → n ≡ []
      → next ≡ place + 1
      → Labels m run place end n next
  -- a length octet of 1 to 63 and as many octets are a label, and the labels of a name stand behind it
  label :
      {run place end : ℕ} {n : List (List ℕ)} {next : ℕ} {behind : ℕ} {others : List (List ℕ)}
      → place < end
      → 0 < slice_index m place
      → slice_index m place < 64
      → behind ≡ place + 1 + slice_index m place
      → behind ≤ end
      → n ≡ slice_range m (place + 1) behind ∷ others
      → Labels m run behind end others next
      → Labels m run place end n next
  -- an octet from 192 on and one more octet point to a place before the run; there a new run begins, which the
  -- string's end bounds
  pointer :
      {run place end : ℕ} {n : List (List ℕ)} {next : ℕ} {target last : ℕ}
      → place < end
      → 192 ≤ slice_index m place
      → place + 2 ≤ end
      → target ≡ pointer_target m place
      → target < run
      → next ≡ place + 2
      → Labels m target target (length m) n last
      → Labels m run place end n next

-- The name n stands at `place` of m, its first run ending at or before `end`; `next` is the place behind that run.
pub record NameAt (m : List ℕ) (place end : ℕ) (n : List (List ℕ)) (next : ℕ) : Type 0 where
  pub within : end ≤ length m
  pub at_most_255 : length (wire n) ≤ 255
  pub labels : Labels m place place end n next

-- what reading gives: labels and the place behind their first run, or the first fault
abbrev pub LabelsRead : Type 0
LabelsRead = Result (List (List ℕ) × ℕ) DecodeError

-- a label before those that are read behind it
abbrev pub prepend_label : List ℕ → LabelsRead → LabelsRead
prepend_label first (Ok x) = Ok (first ∷ x.0, x.1)
prepend_label first (Err fault) = Err fault

-- the labels that a pointer leads to, and the place behind the pointer
abbrev pub at_pointer : ℕ → LabelsRead → LabelsRead
at_pointer next (Ok x) = Ok (x.0, next)
at_pointer next (Err fault) = Err fault

-- What the octet at `place` says, in a run that begins at `run` and ends at or before `end`, where the wire form has
-- `size` octets so far, the zero octet at its end counted: the end, a fault, or what is read behind its label or at
-- its target.
abbrev pub read_octet : List ℕ → ℕ → ℕ → ℕ → ℕ → (behind_label at_target : LabelsRead) → LabelsRead
read_octet m run place end size behind_label at_target =
    let octet = slice_index m place in
    let behind = place + 1 + octet in
    if nat_le end place then Err InsufficientBytes
    else if nat_eq octet 0 then Ok ([], place + 1)
    else if nat_lt octet 64 then
    (if nat_lt 255 (size + octet + 1) then Err NameMalformed
    else if nat_lt end behind then Err InsufficientBytes
    else prepend_label (slice_range m (place + 1) behind) behind_label)
    else if nat_lt octet 192 then Err NameMalformed
    else if nat_lt end (place + 2) then Err InsufficientBytes
    else if nat_le run (pointer_target m place) then Err NameMalformed
    else at_pointer (place + 2) at_target

-- What reading at `place` gives in so many steps, each of which is a label or a pointer.
unfoldable pub labels_in_steps : (steps : ℕ) → List ℕ → ℕ → ℕ → ℕ → ℕ → LabelsRead
labels_in_steps zero m run place end size = Err NameMalformed
labels_in_steps (suc steps) m run place end size =
    let octet = slice_index m place in
    let target = pointer_target m place in
    read_octet m run place end size (labels_in_steps steps m run (place + 1 + octet) end (size + 1 + octet))
    (labels_in_steps steps m target target (length m) size)

-- What reading at `place` gives, with as many steps as there can be: each pointer leads back, and fewer than 256
-- labels stand between two of them.
abbrev pub read_labels : List ℕ → ℕ → ℕ → ℕ → ℕ → LabelsRead
read_labels m run place end size = labels_in_steps (256 * run + 257) m run place end size

-- What reading a name at `place` gives, its first run ending at or before `end`.
unfoldable pub name_at : List ℕ → ℕ → ℕ → LabelsRead
name_at m place end = read_labels m place place end 1
