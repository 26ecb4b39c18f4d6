use Rattle.sec_tsig.proofs.ByMessage.{valid_is_accepted, accepted_is_valid}
use Rattle.sec_tsig.proofs.laws.valid_is_accepted.Goals as goal

pub returns-clause-accepted : goal.returns-clause-accepted
returns-clause-accepted c = valid_is_accepted c.length_of_hmac.ensures

pub returns-clause-valid : goal.returns-clause-valid
returns-clause-valid c = accepted_is_valid
