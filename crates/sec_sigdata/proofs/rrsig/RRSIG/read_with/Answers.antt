use Rattle.std.proofs.Common.{rules}
use Rattle.dns_grammar.proofs.RowReaderLaws.{reads_row}
use Rattle.sec_sigdata.proofs.rrsig.RRSIG.read_with.Goals as goal

pub returns-in_err-read_with-clause-read : goal.returns-in_err-read_with-clause-read
returns-in_err-read_with-clause-read c = reads_row _ _ _ _ _ _ _ (search rules) (search rules)

pub returns-clause-read : goal.returns-clause-read
returns-clause-read c =
    reads_row _ _ _ _ _ _ _ c.in_ok-read_with.ensures.read.exact c.in_ok-read_with.ensures.read.by_number
