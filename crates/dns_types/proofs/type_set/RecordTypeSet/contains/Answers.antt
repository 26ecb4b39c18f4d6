use Rattle.std.proofs.Common.{◌≡◌, sym, ◌∙◌, subst, List, ℕ, IsTrue}
use Rattle.dns_types.specs.TypeSets.{is_bitmap, has_type}
use Rattle.dns_types.proofs.TypeLaws.{type_stands}
use Rattle.dns_types.proofs.type_set.RecordTypeSet.contains.Goals as goal

pub returns-clause-member : goal.returns-clause-member
returns-clause-member c =
    let bitmap : IsTrue (is_bitmap c.args.self.now) = subst (λ (x : List ℕ). IsTrue (is_bitmap x)) c.self.view_is
    c.self.invariant.bitmap in
    let is : c.has_type.result ≡ has_type c.args.self.now c.args.rtype = c.has_type.ensures
    ∙ (λ i. has_type ((c.as_slice.ensures ∙ c.self.view_is) i) (c.from.ensures i)) in
    let stands = type_stands c.args.self.now c.args.rtype bitmap in
    (λ h. stands.0 (sym is ∙ h), λ h. is ∙ stands.1 h)
