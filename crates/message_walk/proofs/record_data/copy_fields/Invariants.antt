use Rattle.std.proofs.Common.{◌≡◌, ◌≤◌, drop, length}
use Rattle.dns_names.specs.PointerCache.{IsPointerCache}
use Rattle.dns_wire.specs.Reading.{octets, place}
use Rattle.dns_grammar.specs.FieldKinds.{kind_fields}
use Rattle.dns_rdata.specs.FieldChecks.{tested_field}
use Rattle.message_walk.specs.Copies.{canonical_from, put}
use Rattle.message_walk.proofs.record_data.copy_fields.Given as goal

-- the fields that are left, put behind what was copied, are what all of them are behind what was held before
abbrev pub invariant-loop-field : goal.invariant-loop-field
invariant-loop-field l = record {
  left : put l.buffer (canonical_from (kind_fields tested_field (drop l.field-index l.fields)) (octets l.decoder)
      (place l.decoder) l.end)
      ≡ put l.fn.buffer (canonical_from (kind_fields tested_field l.fields) (octets l.fn.decoder)
      (place l.fn.decoder) l.end);
  room : length l.buffer ≤ 65535;
  inside : place l.decoder ≤ l.end;
  end : l.end ≤ length (octets l.decoder);
  same : octets l.decoder ≡ octets l.fn.decoder;
  cache : IsPointerCache (octets l.decoder) l.cache;
}
