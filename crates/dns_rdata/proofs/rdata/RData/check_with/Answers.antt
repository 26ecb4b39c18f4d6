use Rattle.dns_rdata.specs.RDataTable.{rdata_table}
use Rattle.dns_rdata.proofs.rdata.RData.check_with.Goals as goal

pub returns-clause-checked : goal.returns-clause-checked
returns-clause-checked c = c.check_rdata.ensures.checks rdata_table c.rdata_fields.ensures
