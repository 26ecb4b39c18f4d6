use Rattle.std.proofs.Common.{◌≡◌, drop, map}
use Rattle.sec_sign.specs.Pairs.{signature_record}
use Rattle.sec_check.specs.Marks.{Trust, stronger, strongest_pair}
use Rattle.sec_check.specs.SectionRecords.{name_of}
use Rattle.sec_check.proofs.mark.try_signatures.Given as goal

-- the strongest verdict so far, and that on the signatures that are left, give that on all
abbrev pub invariant-loop-rr : goal.invariant-loop-rr
invariant-loop-rr g l =
    let trust : Trust = record { accepts = g.S.SignatureScheme.accepts l.scheme; moment = l.moment; entries = l.keys } in
    stronger l.found (strongest_pair trust (name_of l.set) l.octets (map signature_record (drop l.rr-index l.signatures)))
    ≡ strongest_pair trust (name_of l.set) l.octets (map signature_record l.signatures)
