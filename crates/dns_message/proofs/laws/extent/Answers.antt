use Rattle.dns_grammar.proofs.StartLaws.{starts_inside, one_start}
use Rattle.dns_rdata.specs.RDataTable.{rdata_table}
use Rattle.dns_message.proofs.laws.extent.Goals as goal

pub returns : goal.returns
returns c = record { inside = starts_inside rdata_table; one = one_start rdata_table }
