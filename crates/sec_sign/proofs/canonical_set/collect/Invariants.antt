use Rattle.std.proofs.Common.{◌≡◌, ◌<◌, [], drop, length, map}
use Rattle.std.specs.List.{All}
use Rattle.sec_sign.specs.Sets.{SetName, canonical_each, members, set_of_record}
use Rattle.sec_sign.proofs.SetSteps.{put_each}
use Rattle.sec_sign.proofs.canonical_set.collect.Given as goal

abbrev pub invariant-loop-record : goal.invariant-loop-record
invariant-loop-record l =
    let set : SetName = record { name = l.name; dns_class = l.dns_class; rtype = l.rtype } in
    record {
      read : put_each (map (λ c. c.items) l.found.keys)
          (canonical_each (members set_of_record set (drop l.record-index l.records)))
          ≡ put_each [] (canonical_each (members set_of_record set l.records));
      short : All (λ c. length c.items < 65536) l.found.keys;
    }
