use Rattle.std.proofs.Common.{refl}
use Rattle.dns_rdata.specs.RDataTable.{rdata_table}
use Rattle.dns_rdata.proofs.OneReading.{one_reading}
use Rattle.dns_rdata.proofs.laws.data_one_reading.Goals as goal

pub returns : goal.returns
returns c = record { table = one_reading; rdata = one_reading rdata_table refl }
