use Rattle.dns_names.specs.NameLaws.{same_from_lowered}
use Rattle.dns_names.proofs.name.NamePartialEq.eq.Goals as goal

pub returns : goal.returns
returns c = same_from_lowered _ _ _ c.as_wire.ensures.is_name c.as_wire-2.ensures.is_name
    (rw (c.as_wire.ensures.value, c.as_wire-2.ensures.value) at c.eq_ignore_ascii_case.ensures.test)
