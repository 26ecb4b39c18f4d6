use Rattle.std.proofs.Common.{List, ℕ, ap, ◌∙◌, sym}
use Rattle.dns_wire.specs.Octets.{lowered}
use Rattle.dns_names.specs.Names.{low, labels_of_wire}
use Rattle.dns_names.specs.NameLaws.{holds_name, labels_of_wire-padded, low_name, lowered-padded, length-wire-low}
use Rattle.dns_names.proofs.name.Name.to_lowercase.Goals as goal

pub invariant_of-result : goal.invariant_of-result
invariant_of-result c =
    let n : List (List ℕ) = labels_of_wire c.self.inside.octets in
    holds_name (low n) _ _ (low_name n c.self.invariant.name) (c.make_ascii_lowercase.ensures.after
    ∙ ap lowered c.self.invariant.spelled ∙ lowered-padded n c.self.invariant.name) (c.self.invariant.counted
    ∙ sym (length-wire-low n))

pub returns : goal.returns
returns c =
    let n : List (List ℕ) = labels_of_wire c.self.inside.octets in
    record {
      value = labels_of_wire-padded (low n) _ (low_name n c.self.invariant.name) (c.make_ascii_lowercase.ensures.after
          ∙ ap lowered c.self.invariant.spelled ∙ lowered-padded n c.self.invariant.name) ∙ ap low c.self.view_is;
      is_name = rw (← c.self.view_is) c.self.invariant.name;
    }
