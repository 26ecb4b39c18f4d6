use Rattle.message_walk.proofs.RecordsKnown.{records_are_few}
use Rattle.message_walk.proofs.laws.records_are_few.Goals as goal

pub returns : goal.returns
returns c = records_are_few
