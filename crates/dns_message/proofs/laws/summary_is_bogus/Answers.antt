use Rattle.dns_message.proofs.SummaryLaws.{bogus_law}
use Rattle.dns_message.proofs.laws.summary_is_bogus.Goals as goal

pub returns : goal.returns
returns c = bogus_law
