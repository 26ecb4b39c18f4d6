use Rattle.rrsig_input.proofs.CanonicalLengths.{set_fails_by_length}
use Rattle.rrsig_input.proofs.laws.sets_fail_by_length.Goals as goal

pub returns : goal.returns
returns c = set_fails_by_length
