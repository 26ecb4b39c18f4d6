use Rattle.std.proofs.Common.{◌++◌}
use Rattle.std.specs.Prelude.{codes}
use Rattle.std.specs.List.{flat_map}
use Rattle.std.specs.Fmt.{HasWritten, IsPlainFormatter}
use Rattle.dns_types.specs.Codes.{type_text}
use Rattle.sec_sigdata.proofs.type_list.TypesTextDisplay.fmt.Given as goal

-- the types so far are written
abbrev pub invariant-loop-rtype : goal.invariant-loop-rtype
invariant-loop-rtype g l =
    IsPlainFormatter l.initial.f → HasWritten g.W.Write.write_str_gives l.initial.f
    (flat_map (λ t. codes " " ++ type_text t) l.yielded) l.f
