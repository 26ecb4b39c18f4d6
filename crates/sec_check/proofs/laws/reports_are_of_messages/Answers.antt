use Rattle.sec_check.proofs.Reported.{reports_are_of_messages}
use Rattle.sec_check.proofs.laws.reports_are_of_messages.Goals as goal

pub returns : goal.returns
returns c = reports_are_of_messages
