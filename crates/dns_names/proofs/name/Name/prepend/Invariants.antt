use Rattle.std.proofs.Common.{◌≡◌, ◌++◌, ◌∷◌}
use Rattle.dns_names.specs.Names.{IsName}
use Rattle.dns_names.proofs.name.Name.prepend.Given as goal

abbrev pub invariant-labels : goal.invariant-labels
invariant-labels l = record {
  joined : l.name ++ l.octets-iterator ≡ l.label ∷ l.self;
  name : IsName l.name;
}
