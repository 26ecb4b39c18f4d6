use Rattle.std.proofs.Common.{◌≡◌, ◌-◌, map}
use Rattle.std.specs.List.{AllByRecursion}
use Rattle.dns_names.specs.PointerCache.{IsPointerCache}
use Rattle.dns_wire.specs.Reading.{octets, place}
use Rattle.dns_message.specs.MessageReading.{others_at}
use Rattle.dns_message.specs.OwnedMessages.{IsReadRecord}
use Rattle.dns_message.specs.Parts.{record_view}
use Rattle.dns_message.proofs.ValuesRead.{after}
use Rattle.dns_message.proofs.record_reading.read_records.Given as goal

-- the records so far, and those that are left, are all of them
abbrev pub invariant-records : goal.invariant-records
invariant-records l = record {
  left : after (map record_view l.records.items) (others_at (l.count - l.counter) (octets l.reader) (place l.reader))
      ≡ others_at l.count l.message l.start;
  same : octets l.reader ≡ l.message;
  cache : IsPointerCache (octets l.reader) l.cache;
  as_read : AllByRecursion IsReadRecord l.records.items;
}
