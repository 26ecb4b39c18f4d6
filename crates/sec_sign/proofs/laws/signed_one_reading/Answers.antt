use Rattle.sec_sign.proofs.OneReading.{one_reading}
use Rattle.sec_sign.proofs.laws.signed_one_reading.Goals as goal

pub returns : goal.returns
returns c = one_reading
