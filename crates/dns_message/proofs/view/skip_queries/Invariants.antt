use Rattle.std.proofs.Common.{◌≡◌, ◌-◌, ◌≤◌}
use Rattle.dns_names.specs.PointerCache.{IsPointerCache}
use Rattle.dns_wire.specs.Reading.{octets, place}
use Rattle.dns_names.specs.Skipping.{without_value}
use Rattle.dns_grammar.specs.Messages.{queries_at}
use Rattle.dns_message.proofs.view.skip_queries.Given as goal

-- the questions that are left end where all of them do
abbrev pub invariant-queries : goal.invariant-queries
invariant-queries l = record {
  left : without_value (queries_at (l.count - l.counter) (octets l.reader) (place l.reader))
      ≡ without_value (queries_at l.count (octets l.fn.reader) (place l.fn.reader));
  forward : place l.fn.reader ≤ place l.reader;
  same : octets l.reader ≡ octets l.fn.reader;
  cache : IsPointerCache (octets l.reader) l.cache;
}
