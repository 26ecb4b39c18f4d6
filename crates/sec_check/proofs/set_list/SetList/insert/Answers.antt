use Rattle.std.proofs.Common.{map, ◌∷◌, [], List, refl, sym, ap, subst, ◌∙◌}
use Rattle.std.proofs.lemmas.List.{map-append}
use Rattle.sec_sign.specs.Sets.{SetName}
use Rattle.sec_check.specs.SectionRecords.{Knows, name_of}
use Rattle.sec_check.proofs.KeySteps.{knows_new}
use Rattle.sec_check.proofs.set_list.SetList.insert.Goals as goal

pub invariant_of-self-2 : goal.invariant_of-self-2
invariant_of-self-2 c =
    let sets = c.self.inside.sets.items in
    subst (λ (l : List SetName). Knows l c.insert.new.self)
    (sym (ap (map name_of) c.in_ok-push.ensures.items ∙ map-append name_of sets (c.args.set.now ∷ [])))
    (knows_new (name_of c.args.set.now) c.args.set.now refl (map name_of sets) c.self.inside.seen c.insert.new.self
    c.in_ok-insert.field-0 c.in_ok-insert.ensures.added c.in_ok-insert.ensures.updates.0 c.self.invariant)
