use Rattle.dns_names.specs.NameLaws.{wire_is_wire}
use Rattle.dns_names.proofs.name.Name.iter.Goals as goal

pub invariant_of-result : goal.invariant_of-result
invariant_of-result c = (wire_is_wire _ _ c.as_wire.ensures.is_name.each c.as_wire.ensures.value).0

pub returns-clause-value : goal.returns-clause-value
returns-clause-value c = (wire_is_wire _ _ c.as_wire.ensures.is_name.each c.as_wire.ensures.value).1
