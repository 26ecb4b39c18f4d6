use Rattle.std.proofs.Common.{arith, inl, ap, length}
use Rattle.dns_names.specs.NameLaws.{length_lt-wire}
use Rattle.dns_names.proofs.name.Name.label_count.Goals as goal

pub count-requires-clause-fits : goal.count-requires-clause-fits
count-requires-clause-fits c = inl (omega (
  arith,
  length_lt-wire c.args.self.now,
  c.iter.ensures.is_name.at_most_255,
  ap
      length c.iter.ensures.value,
))
