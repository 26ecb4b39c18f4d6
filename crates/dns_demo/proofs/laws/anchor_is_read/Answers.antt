use Rattle.dns_demo.proofs.Anchors.{anchor_is_read}
use Rattle.dns_demo.proofs.laws.anchor_is_read.Goals as goal

pub returns : goal.returns
returns c = anchor_is_read
