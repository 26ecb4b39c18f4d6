use Rattle.dns_rdata.proofs.TableLaws.{types_ascend, tsig_known, rest_last}
use Rattle.dns_rdata.proofs.laws.table_is_table.Goals as goal

pub returns : goal.returns
returns c = record { types = types_ascend; tsig = tsig_known; rest = rest_last }
