use Rattle.dns_wire.specs.Sinks.{Takes}
use Rattle.dns_names.specs.PointerCache.{IsPointerCache}
use Rattle.sec_sign.specs.SignedSets.{head_of}
use Rattle.rrsig_input.specs.SignedSets.{data_from}
use Rattle.rrsig_input.proofs.Records.{first_records}
use Rattle.rrsig_input.proofs.placed_set.put_placed.Given as goal

abbrev pub invariant-records : goal.invariant-records
invariant-records g l = record {
  puts : Takes g.S.OctetSink.has_taken l.initial.sink l.sink
      (first_records (head_of l.head) (data_from l.message) l.places l.place-index);
  cache : IsPointerCache l.message l.cache;
}
