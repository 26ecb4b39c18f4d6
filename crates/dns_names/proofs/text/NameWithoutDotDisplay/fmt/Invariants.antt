use Rattle.std.proofs.Common.{◌∷◌, map}
use Rattle.std.specs.List.{flat_map}
use Rattle.std.specs.Fmt.{HasWritten, IsPlainFormatter}
use Rattle.dns_names.specs.NameText.{dot, octets_text}
use Rattle.dns_names.proofs.text.NameWithoutDotDisplay.fmt.Given as goal

abbrev pub invariant-loop-label : goal.invariant-loop-label
invariant-loop-label g l =
    IsPlainFormatter l.initial.f → HasWritten g.W.Write.write_str_gives l.initial.f
    (flat_map (λ next. dot ∷ octets_text next) (map (λ label. label.now) l.yielded)) l.f
