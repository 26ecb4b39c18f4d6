use Rattle.std.proofs.Common.{◌≡◌, map, take}
use Rattle.std.specs.List.{flat_map}
use Rattle.std.specs.String.{string_bytes}
use Rattle.dns_message.specs.Parts.{record_view}
use Rattle.dnsrows.specs.Covering.{covered_line}
use Rattle.dnsrows.proofs.covering.covered_lines.Given as goal

abbrev pub invariant-records : goal.invariant-records
invariant-records l = map string_bytes l.lines.items
    ≡ flat_map (λ rr. covered_line (map record_view l.answers) (record_view rr)) (take l.rr-index l.answers)
