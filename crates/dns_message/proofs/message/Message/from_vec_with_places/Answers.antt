use Rattle.dns_message.specs.OwnedMessages.{held, standing}
use Rattle.dns_message.proofs.ReadLaws.{reads_message}
use Rattle.dns_message.proofs.message.Message.from_vec_with_places.Goals as goal

pub returns-clause-read : goal.returns-clause-read
returns-clause-read c =
    reads_message held standing c.args.octets.now c.read_with_cache.result c.read_with_cache.ensures.exact
