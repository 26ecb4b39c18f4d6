use Rattle.std.proofs.Common.{◌≡◌, length}
use Rattle.dns_types.specs.TypeSets.{trimmed}
use Rattle.dns_types.proofs.type_form.trimmed.Given as goal

abbrev pub invariant-loop-last : goal.invariant-loop-last
invariant-loop-last l = trimmed l.left ≡ trimmed l.octets

abbrev pub decreases-loop-last : goal.decreases-loop-last
decreases-loop-last l = length l.left
