use Rattle.std.proofs.Common.{◌≡◌, ◌++◌, ◌∷◌, ◌∙◌, List, ℕ, ap, sym}
use Rattle.std.proofs.lemmas.Result.{err_from_is_err_and}
use Rattle.dns_names.specs.Names.{IsLabel}
use Rattle.dns_names.proofs.AboveBelow.{next_label, too_long}
use Rattle.dns_names.proofs.name.Name.prepend.Goals as goal

-- the labels before the next one, that label, and those behind it
next_joined : (shown left rest whole : List (List ℕ)) (label : List ℕ) → left ≡ label ∷ rest → shown ++ left ≡ whole
    → shown ++ label ∷ rest ≡ whole
next_joined shown left rest whole label steps joined = ap (λ z. shown ++ z) (sym steps) ∙ joined

pub add_label-requires-in-labels : goal.add_label-requires-in-labels
add_label-requires-in-labels c =
    let joined = next_joined c.labels.name _ c.next.new.self
    (c.args.label.now ∷ c.args.self.now) c.in-Some.octets.now c.in-Some.ensures.steps c.labels.invariant.joined in
    (next_label c.labels.name c.in-Some.octets.now c.next.new.self _
    (c.as_slice.ensures.label, c.iter-octets-items.ensures.is_name.each) joined).at_most_63

pub returns-in_err-add_label-2 : goal.returns-in_err-add_label-2
returns-in_err-add_label-2 c =
    let p = err_from_is_err_and c.from_residual-in_err-add_label-2.result c.from_residual-in_err-add_label-2.ensures.1
    in
    let joined = next_joined c.labels.name _ c.next.new.self
    (c.args.label.now ∷ c.args.self.now) c.in-Some.octets.now c.in-Some.ensures.steps c.labels.invariant.joined in
    let is : IsLabel c.in-Some.octets.now = next_label c.labels.name c.in-Some.octets.now c.next.new.self _
    (c.as_slice.ensures.label, c.iter-octets-items.ensures.is_name.each) joined in
    rw (p.1, p.2) (too_long c.labels.name c.in-Some.octets.now c.next.new.self
    (c.args.label.now ∷ c.args.self.now) _ is joined c.in_err-add_label-2.ensures)
