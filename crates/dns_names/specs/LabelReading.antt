-- Names read label by label.
use Rattle.std.specs.Prelude.{◌≡◌, ℕ, ◌+◌, ◌-◌, ◌*◌, ◌<◌, ◌≤◌, [], length, Option, unwrap_or, Result, Ok, Err}
use Rattle.dns_wire.specs.declared.error.DecodeError.{DecodeError}
use Rattle.dns_names.specs.declared.label_reader.LabelReader.{LabelReader}
use Rattle.dns_names.specs.declared.label_reader.Step.{Step}
use Rattle.dns_names.specs.declared.label_reader.Step.TheVariants.{Label, Pointer, Root}
use Rattle.dns_names.specs.Places.{LabelsRead, prepend_label, read_labels}

-- the place behind the first run, where a pointer ended it
abbrev pub with_next : Option ℕ → LabelsRead → LabelsRead
with_next next (Ok x) = Ok (x.0, unwrap_or next x.1)
with_next next (Err fault) = Err fault

-- what is still to be read: the labels behind those that were read, and the place behind the name's first run
abbrev pub to_read : LabelReader → LabelsRead
to_read reader = with_next reader.next (read_labels reader.octets.now reader.run reader.place reader.end reader.size)

-- a number that each step lessens: runs begin farther and farther back, and in a run the wire form grows
abbrev pub ahead : LabelReader → ℕ
ahead reader = 256 * reader.run + 256 - reader.size

-- what a step says of what was to be read
abbrev pub Steps : Result Step DecodeError → LabelReader → LabelReader → Type 0
Steps (Ok (Label label)) old new =
    (to_read old ≡ prepend_label label.now (to_read new)) × (new.size ≡ old.size + (length label.now + 1))
    × (0 < length label.now) × (length label.now ≤ 63) × (ahead new < ahead old)
Steps (Ok Pointer) old new = (to_read old ≡ to_read new) × (new.size ≡ old.size) × (ahead new < ahead old)
Steps (Ok (Root next)) old new = to_read old ≡ Ok ([], next)
Steps (Err fault) old new = to_read old ≡ Err fault
