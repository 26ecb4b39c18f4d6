use Rattle.sec_tsig.proofs.ByMessage.{verdict_by_message, no_message_is_decode}
use Rattle.sec_tsig.proofs.laws.verdict_is_by_its_message.Goals as goal

pub returns-clause-stands : goal.returns-clause-stands
returns-clause-stands c = verdict_by_message

pub returns-clause-none : goal.returns-clause-none
returns-clause-none c = no_message_is_decode
