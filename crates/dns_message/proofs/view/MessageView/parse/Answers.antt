use Rattle.dns_message.proofs.ViewLaws.{views}
use Rattle.dns_message.proofs.view.MessageView.parse.Goals as goal

pub returns : goal.returns
returns c = views c.args.octets.now c.read.result c.read.ensures.exact c.read.ensures.placed c.read.ensures.header
