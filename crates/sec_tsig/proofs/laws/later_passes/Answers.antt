use Rattle.sec_tsig.proofs.Passes.{later_passes}
use Rattle.sec_tsig.proofs.laws.later_passes.Goals as goal

pub returns : goal.returns
returns c = later_passes c.length_of_hmac.ensures
