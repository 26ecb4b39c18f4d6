use Rattle.std.proofs.Common.{◌++◌, take}
use Rattle.std.specs.Prelude.{codes}
use Rattle.std.specs.List.{flat_map}
use Rattle.std.specs.Fmt.{HasWritten, IsPlainFormatter}
use Rattle.dns_rdata.specs.Texts.{quoted_text}
use Rattle.dns_rdata.proofs.texts.StringsDisplay.fmt.Given as goal

-- what stands behind the first string so far
abbrev pub invariant-loop-string : goal.invariant-loop-string
invariant-loop-string g l =
    IsPlainFormatter l.initial.f → HasWritten g.W.Write.write_str_gives l.initial.f
    (flat_map (λ next. codes " " ++ quoted_text next) (take l.string-index l.rest)) l.f
