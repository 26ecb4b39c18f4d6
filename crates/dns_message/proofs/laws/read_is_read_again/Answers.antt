use Rattle.dns_message.proofs.MessageAgain.{message_again}
use Rattle.dns_message.proofs.laws.read_is_read_again.Goals as goal

pub returns : goal.returns
returns c = message_again
