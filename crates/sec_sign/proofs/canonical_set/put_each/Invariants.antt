use Rattle.std.proofs.Common.{map}
use Rattle.std.specs.Map.Iter.{deref}
use Rattle.dns_wire.specs.Sinks.{Takes}
use Rattle.sec_sign.specs.Signed.{records_octets}
use Rattle.sec_sign.specs.SignedSets.{head_of}
use Rattle.sec_sign.proofs.canonical_set.put_each.Given as goal

abbrev pub invariant-loop-string : goal.invariant-loop-string
invariant-loop-string g l =
    Takes g.S.OctetSink.has_taken l.initial.sink l.sink
    (records_octets (head_of l.head) (map (λ c. c.items) (map deref l.yielded)))
