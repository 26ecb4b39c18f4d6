use Rattle.std.proofs.Common.{length}
use Rattle.std.specs.String.{string_bytes}
use Rattle.dns_rows.proofs.RowSteps.{HasRows}
use Rattle.dns_rows.proofs.calls.rows.Given as goal

abbrev pub invariant-lines : goal.invariant-lines
invariant-lines g l = HasRows g.C.Calls.answer_to l.octets l.rest (string_bytes l.text)

abbrev pub decreases-lines : goal.decreases-lines
decreases-lines g l = length l.rest
