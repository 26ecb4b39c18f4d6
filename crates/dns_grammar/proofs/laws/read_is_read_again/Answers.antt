use Rattle.dns_grammar.proofs.ReadAgain.{read_again, read_row_again, read_data_again}
use Rattle.dns_grammar.proofs.laws.read_is_read_again.Goals as goal

pub returns-clause-fields : goal.returns-clause-fields
returns-clause-fields c = read_again

pub returns-clause-row : goal.returns-clause-row
returns-clause-row c = read_row_again

pub returns-clause-data : goal.returns-clause-data
returns-clause-data c = read_data_again
