use Rattle.dns_demo.proofs.Sets.{sets_are_signed}
use Rattle.dns_demo.proofs.laws.sets_are_signed.Goals as goal

pub returns : goal.returns
returns c = sets_are_signed
