use Rattle.std.proofs.Common.{◌≡◌, drop, map}
use Rattle.sec_anchor.specs.Entries.{EntryData, entry_data}
use Rattle.sec_sign.specs.declared.pair.PairVerdict.{PairVerdict}
use Rattle.sec_sign.specs.Pairs.{record_verdict, signature_record}
use Rattle.sec_sign.specs.Sets.{SetName}
use Rattle.sec_sign.specs.Verifying.{Relation}
use Rattle.sec_check.specs.Indexes.{strongest_at}
use Rattle.sec_check.specs.Marks.{stronger, zone_key}
use Rattle.sec_check.proofs.trusted_keys.strongest_at.Given as goal

abbrev pub invariant-loop-position : goal.invariant-loop-position
invariant-loop-position g l =
    let accepts : Relation = g.S.SignatureScheme.accepts l.scheme in
    let set : SetName = record { name = l.name; dns_class = l.dns_class; rtype = l.rtype } in
    let verdict : EntryData → PairVerdict =
    λ (entry : EntryData). record_verdict accepts l.moment set (zone_key entry) l.set (signature_record l.rr) in
    stronger l.found (strongest_at verdict (map entry_data l.entries) (drop l.position-index l.positions))
    ≡ strongest_at verdict (map entry_data l.entries) l.positions
