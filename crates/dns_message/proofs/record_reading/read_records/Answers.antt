use Rattle.std.proofs.Common.{sym, subst, ◌∙◌}
use Rattle.std.proofs.Common.{false, List}
use Rattle.std.specs.List.{AllByRecursion}
use Rattle.dns_grammar.specs.Messages.{record_at}
use Rattle.dns_rdata.specs.declared.rdata.RData.{RData}
use Rattle.dns_rdata.specs.RDataTable.{rdata_table}
use Rattle.dns_message.specs.declared.record.Record.{Record}
use Rattle.dns_message.specs.MessageReading.{unplaced_at}
use Rattle.dns_message.specs.OwnedMessages.{IsReadRecord}
use Rattle.dns_message.specs.Parts.{record_view}
use Rattle.dns_message.proofs.ValuesRead.{value_put, all_put}
use Rattle.dns_names.specs.PointerCache.{IsPointerCache}
use Rattle.dns_wire.specs.Reading.{octets, place}
use Rattle.dns_message.proofs.record_reading.read_records.Goals as goal

pub records-preserved : goal.records-preserved
records-preserved c =
    let read = c.in_ok-record.ensures.exact in
    let before = c.records.reader in
    let behind = c.read_record.new.decoder in
    let so_far = c.records.records.items in
    let now = c.push.new.self.items in
    let left = value_put record_view (λ m p. unplaced_at (record_at rdata_table false m p))
    (octets before) (octets behind) so_far now c.in_ok-record.record c.args.count c.records.counter
    (place before) (place behind) _ c.records.invariant.left c.records-test.true read.0 read.1
    c.in_ok-push.ensures.items in
    record {
      left = left;
      same = read.1 ∙ c.records.invariant.same;
      cache = subst (λ m. IsPointerCache m c.read_record.new.cache) (sym read.1) c.in_ok-record.ensures.cache;
      as_read = subst (λ (l : List (Record RData)). AllByRecursion IsReadRecord l) (sym c.in_ok-push.ensures.items)
          (all_put IsReadRecord c.records.records.items c.in_ok-record.record c.records.invariant.as_read
          c.in_ok-record.ensures.as_read);
    }
