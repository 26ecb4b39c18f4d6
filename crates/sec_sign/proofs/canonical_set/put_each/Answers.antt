use Rattle.std.proofs.Common.{◌≡◌, map, rules, subst}
use Rattle.std.specs.Map.Iter.{deref}
use Rattle.std.proofs.lemmas.Map.Iter.{iter_end}
use Rattle.dns_wire.specs.Sinks.{Takes}
use Rattle.sec_sign.specs.Signed.{records_octets}
use Rattle.sec_sign.specs.SignedSets.{head_of}
use Rattle.sec_sign.proofs.canonical_set.put_each.Goals as goal

pub returns : goal.returns
returns g c =
    let all : map deref c.loop-string.yielded ≡ c.args.strings.now.keys = search (rules, iter_end) in
    subst (λ keys. Takes g.S.OctetSink.has_taken c.args.sink.now c.loop-string.sink
    (records_octets (head_of c.args.head.now) (map (λ c. c.items) keys))) all
    c.loop-string.invariant
