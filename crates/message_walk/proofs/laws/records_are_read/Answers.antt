use Rattle.message_walk.proofs.RecordsKnown.{records_are_read}
use Rattle.message_walk.proofs.laws.records_are_read.Goals as goal

pub returns : goal.returns
returns c = records_are_read
