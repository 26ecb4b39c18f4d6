use Rattle.dns_grammar.proofs.ReadBack.{written_reads}
use Rattle.dns_grammar.proofs.ReadAgain.{written_row, written_data}
use Rattle.dns_grammar.proofs.RecordBack.{written_record}
use Rattle.dns_grammar.proofs.MessageBack.{written_message}
use Rattle.dns_grammar.proofs.laws.written_is_read.Goals as goal

pub returns-clause-fields : goal.returns-clause-fields
returns-clause-fields c fields last values x front back holds written = written_reads fields values x front back last
    holds written

pub returns-clause-row : goal.returns-clause-row
returns-clause-row c = written_row

pub returns-clause-data : goal.returns-clause-data
returns-clause-data c = written_data

pub returns-clause-record : goal.returns-clause-record
returns-clause-record c = written_record

pub returns-clause-message : goal.returns-clause-message
returns-clause-message c = written_message
