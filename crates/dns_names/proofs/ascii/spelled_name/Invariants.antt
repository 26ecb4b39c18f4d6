use Rattle.std.proofs.Common.{length}
use Rattle.dns_names.proofs.TextSteps.{Spelling}
use Rattle.dns_names.proofs.ascii.spelled_name.Given as goal

abbrev pub invariant-characters : goal.invariant-characters
invariant-characters l = Spelling l.fn.text l.name l.label l.rest

abbrev pub decreases-characters : goal.decreases-characters
decreases-characters l = length l.rest
