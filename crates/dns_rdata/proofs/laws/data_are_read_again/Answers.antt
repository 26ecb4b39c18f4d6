use Rattle.dns_rdata.proofs.TableLaws.{read_again}
use Rattle.dns_rdata.proofs.laws.data_are_read_again.Goals as goal

pub returns : goal.returns
returns c = read_again
