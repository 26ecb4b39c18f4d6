use Rattle.dns_grammar.proofs.DataLaws.{row_is_read, data_is_read, one_data}
use Rattle.dns_grammar.proofs.laws.data_are_read_where_they_stand.Goals as goal

pub returns-clause-row : goal.returns-clause-row
returns-clause-row c = row_is_read

pub returns-clause-data : goal.returns-clause-data
returns-clause-data c = data_is_read

pub returns-clause-one : goal.returns-clause-one
returns-clause-one c = one_data
