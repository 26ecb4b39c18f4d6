use Rattle.std.proofs.Common.{◌≡◌, ◌-◌, ◌≤◌}
use Rattle.dns_names.specs.PointerCache.{IsPointerCache}
use Rattle.dns_wire.specs.Reading.{octets, place}
use Rattle.dns_names.specs.Skipping.{without_value}
use Rattle.dns_rdata.specs.RDataTable.{rdata_table}
use Rattle.dns_grammar.specs.Messages.{records_at}
use Rattle.dns_message.proofs.view.skip_records.Given as goal

-- the records that are left end where all of them do
abbrev pub invariant-records : goal.invariant-records
invariant-records l = record {
  left : without_value (records_at rdata_table (l.count - l.counter) (octets l.reader) (place l.reader))
      ≡ without_value (records_at rdata_table l.count (octets l.fn.reader) (place l.fn.reader));
  forward : place l.fn.reader ≤ place l.reader;
  same : octets l.reader ≡ octets l.fn.reader;
  cache : IsPointerCache (octets l.reader) l.cache;
}
