use Rattle.sec_digest.proofs.Lengths.{length-hmac}
use Rattle.sec_digest.proofs.laws.length_of_hmac.Goals as goal

pub returns : goal.returns
returns c = length-hmac
