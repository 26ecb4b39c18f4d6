use Rattle.std.proofs.Common.{◌≡◌, map, drop}
use Rattle.dns_message.specs.Parts.{record_view}
use Rattle.dnsrows.specs.Pairs.{first_rrsig}
use Rattle.dnsrows.proofs.pairs.first_rrsig.Given as goal

-- no record so far is of the type
abbrev pub invariant-records : goal.invariant-records
invariant-records l =
    first_rrsig (map record_view (drop l.rr-index l.records)) ≡ first_rrsig (map record_view l.records)
