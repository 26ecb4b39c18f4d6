use Rattle.dns_names.proofs.AboveBelow.{dropped_fits}
use Rattle.dns_names.proofs.name.Name.trim_to.Goals as goal

pub of_rest-requires : goal.of_rest-requires
of_rest-requires c = rw (c.behind.ensures, c.iter.ensures.value) (dropped_fits _ _ c.iter.ensures.is_name)
