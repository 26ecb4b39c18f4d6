use Rattle.dns_grammar.proofs.StartLaws.{starts_inside, one_start}
use Rattle.dns_grammar.proofs.laws.one_start.Goals as goal

pub returns-clause-inside : goal.returns-clause-inside
returns-clause-inside c = starts_inside

pub returns-clause-one : goal.returns-clause-one
returns-clause-one c = one_start
