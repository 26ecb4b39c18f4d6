use Rattle.dns_types.proofs.FormLaws.{form_is_bitmap, form_ascends, form_has, form_types}
use Rattle.dns_types.proofs.laws.form_of_a_set_has_its_types.Goals as goal

pub returns-clause-bitmap : goal.returns-clause-bitmap
returns-clause-bitmap c = form_is_bitmap

pub returns-clause-ascends : goal.returns-clause-ascends
returns-clause-ascends c = form_ascends

pub returns-clause-has : goal.returns-clause-has
returns-clause-has c = form_has

pub returns-clause-types : goal.returns-clause-types
returns-clause-types c = form_types
