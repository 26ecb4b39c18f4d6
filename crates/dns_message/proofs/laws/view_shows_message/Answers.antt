use Rattle.dns_message.proofs.ViewAgreement.{view_shows, one_fault}
use Rattle.dns_message.proofs.laws.view_shows_message.Goals as goal

pub returns : goal.returns
returns c = record { shows = view_shows; fault = one_fault }
