use Rattle.dns_grammar.proofs.CanonicalLaws.{fields_canonical, agreeing_have_one_form}
use Rattle.dns_grammar.proofs.laws.canonical_is_plain.Goals as goal

pub returns-clause-shown : goal.returns-clause-shown
returns-clause-shown c = fields_canonical

pub returns-clause-agree : goal.returns-clause-agree
returns-clause-agree c = agreeing_have_one_form
