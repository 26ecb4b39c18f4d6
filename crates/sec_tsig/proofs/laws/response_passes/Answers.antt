use Rattle.sec_tsig.proofs.Passes.{response_passes}
use Rattle.sec_tsig.proofs.laws.response_passes.Goals as goal

pub returns : goal.returns
returns c = response_passes c.length_of_hmac.ensures
