use Rattle.std.proofs.Common.{ap, sym, ◌∙◌, subst}
use Rattle.dns_types.specs.TypeSets.{types}
use Rattle.dns_types.specs.TypeWalks.{HoldsTypes}
use Rattle.dns_types.proofs.TypeWalks.{Walks, walks_octets, walks_form}
use Rattle.dns_types.proofs.type_set.RecordTypeSet.iter.Goals as goal
use Rattle.dns_types.proofs.type_set.RecordTypeSet.iter.Goals.{in-Some, in-None}

-- the octets that are walked
walked : (c : goal.After-as_slice) → Walks c.self.inside.octets c.as_slice.result.now
walked c =
    elim c.match-self.branch [
      | in-Some w ↦ subst (Walks c.self.inside.octets) (sym (c.as_slice.ensures ∙ ap (λ x. x.now) w.octets-is))
          (walks_form c.self.inside.octets w.in-Some.ascending
          (subst (HoldsTypes c.self.inside.octets) w.in-Some.is c.self.invariant))
      | in-None w ↦ subst (Walks c.self.inside.octets) (sym (c.as_slice.ensures ∙ ap (λ x. x.now) w.octets-is))
          (walks_octets c.self.inside.octets (subst (HoldsTypes c.self.inside.octets) w.in-None.is c.self.invariant))
    ]

pub invariant_of-result : goal.invariant_of-result
invariant_of-result c = (walked c).is_walk

pub returns-clause-value : goal.returns-clause-value
returns-clause-value c = (walked c).all ∙ ap types c.self.view_is
