use Rattle.dns_rdata.proofs.DataText.{text_of_data}
use Rattle.dns_rdata.proofs.laws.text_is_of_values.Goals as goal

pub returns : goal.returns
returns c = text_of_data
