use Rattle.std.proofs.Common.{◌++◌, take}
use Rattle.std.specs.Prelude.{codes}
use Rattle.std.specs.List.{flat_map}
use Rattle.std.specs.Fmt.{HasWritten, IsPlainFormatter}
use Rattle.dnsshow.specs.ShownMessages.{record_shown}
use Rattle.dnsshow.proofs.message.RecordLinesDisplay.fmt.Given as goal

-- the lines of the first records so far
abbrev pub invariant-loop-rr : goal.invariant-loop-rr
invariant-loop-rr g l =
    IsPlainFormatter l.initial.f → HasWritten g.W.Write.write_str_gives l.initial.f
    (flat_map (λ rr. codes "\n" ++ record_shown rr) (take l.rr-index l.records)) l.f
