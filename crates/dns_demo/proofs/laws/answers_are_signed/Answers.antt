use Rattle.dns_demo.proofs.AnswersWritten.{answers_are_written, answers_have_tsig}
use Rattle.dns_demo.proofs.laws.answers_are_signed.Goals as goal

pub returns-clause-written : goal.returns-clause-written
returns-clause-written c = answers_are_written c.length_of_hmac.ensures

pub returns-clause-signed : goal.returns-clause-signed
returns-clause-signed c = answers_have_tsig c.length_of_hmac.ensures
