use Rattle.dns_names.specs.NameLaws.{lowered-wire}
use Rattle.dns_names.proofs.laws.lowering_keeps_lengths.Goals as goal

pub returns : goal.returns
returns c n name = lowered-wire n name.each
