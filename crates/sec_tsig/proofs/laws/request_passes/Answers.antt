use Rattle.sec_tsig.proofs.Passes.{request_passes}
use Rattle.sec_tsig.proofs.laws.request_passes.Goals as goal

pub returns : goal.returns
returns c = request_passes c.length_of_hmac.ensures
