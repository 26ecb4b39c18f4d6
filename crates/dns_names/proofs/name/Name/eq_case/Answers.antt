use Rattle.std.proofs.Common.{true, ◌≡◌, List, ℕ, ap, ◌++◌, []}
use Rattle.std.proofs.lemmas.Slice.Eq.{bytes_eq-Decides}
use Rattle.std.specs.Str.{bytes_eq}
use Rattle.dns_names.specs.Names.{IsName, wire}
use Rattle.dns_names.specs.NameLaws.{same_from_wire}
use Rattle.dns_names.proofs.name.Name.eq_case.Goals as goal

-- equal wire forms are those of one name
equal : (n z : List (List ℕ)) → IsName n → IsName z
    → (bytes_eq (wire n) (wire z) ≡ true → n ≡ z) × (n ≡ z → bytes_eq (wire n) (wire z) ≡ true)
equal n z name other =
    let d = bytes_eq-Decides (wire n) (wire z) in
    (λ h. same_from_wire n z [] [] name.each other.each (ap (λ t. t ++ []) (d.0 h)), λ e. d.1 (ap wire e))

pub returns : goal.returns
returns c = rw (c.eq.ensures, c.as_wire.ensures.value, c.as_wire-2.ensures.value)
    (equal c.args.self.now c.args.other.now c.as_wire.ensures.is_name c.as_wire-2.ensures.is_name)
