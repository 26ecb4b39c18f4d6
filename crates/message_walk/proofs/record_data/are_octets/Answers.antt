use Rattle.std.proofs.Common.{arith}
use Rattle.dns_names.specs.NameLaws.{octets_by_index}
use Rattle.message_walk.proofs.record_data.are_octets.Goals as goal

pub returns : goal.returns
returns c = octets_by_index c.args.octets.now (λ k. omega (arith, c.type_inv.octets k))
