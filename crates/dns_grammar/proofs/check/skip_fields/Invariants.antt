use Rattle.std.proofs.Common.{◌≡◌, ◌≤◌, drop, length}
use Rattle.dns_names.specs.PointerCache.{IsPointerCache}
use Rattle.dns_wire.specs.Reading.{octets, place}
use Rattle.dns_grammar.specs.Fields.{fields_at}
use Rattle.dns_names.specs.Skipping.{without_value}
use Rattle.dns_grammar.specs.FieldKinds.{kind_fields}
use Rattle.dns_grammar.proofs.check.skip_fields.Given as goal

-- the fields that are left end where all of them do
abbrev pub invariant-loop-field : goal.invariant-loop-field
invariant-loop-field g l = record {
  left : without_value (fields_at (kind_fields g.T.TestedField.field (drop l.field-index l.fields)) (octets l.reader)
      (place l.reader) l.end)
      ≡ without_value (fields_at (kind_fields g.T.TestedField.field l.fields) (octets l.fn.reader)
      (place l.fn.reader) l.end);
  inside : place l.reader ≤ l.end;
  end : l.end ≤ length (octets l.reader);
  forward : place l.fn.reader ≤ place l.reader;
  same : octets l.reader ≡ octets l.fn.reader;
  cache : IsPointerCache (octets l.reader) l.cache;
}
