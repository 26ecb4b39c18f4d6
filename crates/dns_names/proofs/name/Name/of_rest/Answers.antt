use Rattle.std.proofs.Common.{ap, ◌∙◌, arith, length}
use Rattle.dns_names.specs.Names.{IsName, labels_of_wire, wire}
use Rattle.dns_names.specs.NameLaws.{holds_name, labels_of_wire-padded}
use Rattle.dns_names.proofs.AboveBelow.{rest_padded}
use Rattle.dns_names.proofs.name.Name.of_rest.Goals as goal

is_name : (c : goal.After-octets-2-1) → IsName (labels_of_wire c.labels.inside.rest.now)
is_name c = record {
  each = c.labels.invariant.each;
  at_most_255 = omega
      (arith, c.requires, ap (λ z. length (wire z)) c.labels.view_is);
}

pub invariant_of-result : goal.invariant_of-result
invariant_of-result c = holds_name _ _ _ (is_name c)
    (rest_padded _ _ _ c.labels.invariant.spelled c.copy_from_slice.ensures.after)
    (ap length c.labels.invariant.spelled)

pub returns-clause-value : goal.returns-clause-value
returns-clause-value c = labels_of_wire-padded _ _ (is_name c)
    (rest_padded _ _ _ c.labels.invariant.spelled c.copy_from_slice.ensures.after) ∙ c.labels.view_is

pub returns-clause-is_name : goal.returns-clause-is_name
returns-clause-is_name c = (invariant_of-result c).name
