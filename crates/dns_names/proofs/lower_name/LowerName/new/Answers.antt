use Rattle.std.proofs.Common.{subst, sym}
use Rattle.dns_names.specs.Names.{IsLowered}
use Rattle.dns_names.specs.NameLaws.{low_is_lowered}
use Rattle.dns_names.proofs.lower_name.LowerName.new.Goals as goal

pub invariant_of-result : goal.invariant_of-result
invariant_of-result c = subst IsLowered (sym c.to_lowercase.ensures.value) (low_is_lowered c.args.name.now)

pub returns-clause-is_lowered : goal.returns-clause-is_lowered
returns-clause-is_lowered c = subst IsLowered (sym c.to_lowercase.ensures.value) (low_is_lowered c.args.name.now)
