use Rattle.std.proofs.Common.{sym, subst, ◌∙◌}
use Rattle.dns_grammar.specs.Messages.{query_at}
use Rattle.dns_message.specs.Views.{query_view}
use Rattle.dns_message.proofs.ValuesRead.{value_put}
use Rattle.dns_names.specs.PointerCache.{IsPointerCache}
use Rattle.dns_wire.specs.Reading.{octets, place}
use Rattle.dns_message.proofs.record_reading.read_queries.Goals as goal

pub queries-preserved : goal.queries-preserved
queries-preserved c =
    let read = c.in_ok-query.ensures.exact in
    let before = c.queries.reader in
    let behind = c.read_with.new.decoder in
    let so_far = c.queries.queries.items in
    let now = c.push.new.self.items in
    let left = value_put query_view (λ m p. query_at m p)
    (octets before) (octets behind) so_far now c.in_ok-query.query c.args.count c.queries.counter
    (place before) (place behind) _ c.queries.invariant.left c.queries-test.true read.0 read.1
    c.in_ok-push.ensures.items in
    record {
      left = left;
      same = read.1 ∙ c.queries.invariant.same;
      cache = subst (λ m. IsPointerCache m c.read_with.new.cache) (sym read.1) c.in_ok-query.ensures.cache;
    }
