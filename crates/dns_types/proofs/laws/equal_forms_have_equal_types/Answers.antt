use Rattle.dns_types.proofs.EqualForms.{sets_of_forms, lists_of_forms}
use Rattle.dns_types.proofs.laws.equal_forms_have_equal_types.Goals as goal

pub returns-clause-sets : goal.returns-clause-sets
returns-clause-sets c = sets_of_forms

pub returns-clause-lists : goal.returns-clause-lists
returns-clause-lists c = lists_of_forms
