use Rattle.dns_grammar.proofs.RowReaderLaws.{checks_data}
use Rattle.dns_grammar.proofs.check.check_rdata.Goals as goal

pub returns-clause-checks : goal.returns-clause-checks
returns-clause-checks g c table same = checks_data table _ _ _ _ _ (c.pass_rdata.ensures.exact table same)
