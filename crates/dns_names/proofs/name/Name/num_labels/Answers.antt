use Rattle.std.proofs.Common.{arith}
use Rattle.dns_names.proofs.AboveBelow.{few_labels}
use Rattle.dns_names.proofs.name.Name.num_labels.Goals as goal

pub overflow_cast-labels : goal.overflow_cast-labels
overflow_cast-labels c = omega (arith, few_labels c.args.self.now c.iter.ensures.is_name, c.label_count-labels.ensures)
