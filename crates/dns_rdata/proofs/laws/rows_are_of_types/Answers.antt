use Rattle.dns_rdata.proofs.TableLaws.{row_of_type, plain_of_type, canon_of_type}
use Rattle.dns_rdata.proofs.laws.rows_are_of_types.Goals as goal

pub returns : goal.returns
returns c = record { rows = row_of_type; plain = plain_of_type; canon = canon_of_type }
