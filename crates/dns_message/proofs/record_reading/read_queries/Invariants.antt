use Rattle.std.proofs.Common.{◌≡◌, ◌-◌, map}
use Rattle.dns_names.specs.PointerCache.{IsPointerCache}
use Rattle.dns_wire.specs.Reading.{octets, place}
use Rattle.dns_grammar.specs.Messages.{queries_at}
use Rattle.dns_message.specs.Views.{query_view}
use Rattle.dns_message.proofs.ValuesRead.{after}
use Rattle.dns_message.proofs.record_reading.read_queries.Given as goal

-- the questions so far, and those that are left, are all of them
abbrev pub invariant-queries : goal.invariant-queries
invariant-queries l = record {
  left : after (map query_view l.queries.items) (queries_at (l.count - l.counter) (octets l.reader) (place l.reader))
      ≡ queries_at l.count l.message l.start;
  same : octets l.reader ≡ l.message;
  cache : IsPointerCache (octets l.reader) l.cache;
}
