use Rattle.dns_grammar.proofs.MessageLaws.{message_is_read, one_message}
use Rattle.dns_grammar.proofs.laws.messages_are_read_where_they_stand.Goals as goal

pub returns-clause-read : goal.returns-clause-read
returns-clause-read c = message_is_read

pub returns-clause-one : goal.returns-clause-one
returns-clause-one c = one_message
