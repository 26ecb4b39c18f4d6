use Rattle.std.proofs.Common.{◌≡◌, ◌++◌, ◌∷◌, [], ◌+◌, ◌-◌, ◌≤◌, List, ℕ, ap, refl, ◌∙◌, length, set, arith}
use borrow.Rule.Slice.PartMut.{put_mid}
use Rattle.dns_names.specs.Names.{IsName, IsLabel, wire, labels_of_wire, padded}
use Rattle.dns_names.specs.NameLaws.{holds_name, labels_of_wire-padded, octets_by_index}
use Rattle.dns_names.proofs.NamePush.{pushed_padded, name_push, length-wire-push}
use Rattle.dns_names.proofs.name.Name.push.Goals as goal

-- the name before the call
abbrev old : goal.After-self-1 → List (List ℕ)
old c = labels_of_wire c.self.inside.octets

fits : (c : goal.After-self-1) → length (wire (old c)) + length c.args.label.now + 1 ≤ 255
fits c = omega (arith, c.requires.at_most_255, ap (λ n. length (wire n)) c.self.view_is)

is_label : (c : goal.After-self-1) → IsLabel c.args.label.now
is_label c = record {
  nonempty = c.requires.nonempty;
  at_most_63 = c.requires.at_most_63;
  octets = octets_by_index
      c.args.label.now (λ k. omega (arith, c.type_inv.label k));
}

is_name : (c : goal.After-self-1) → IsName (old c ++ c.args.label.now ∷ [])
is_name c = name_push (old c) c.args.label.now c.self.invariant.name (is_label c) (fits c)

is_padded : (c : goal.After-self-1) → put_mid c.self.inside.len
    (c.self.inside.len + length c.args.label.now - c.self.inside.len)
    (set c.self.inside.octets (c.self.inside.len - 1) (length c.args.label.now)) c.copy_from_slice.new.self
    ≡ padded (old c ++ c.args.label.now ∷ [])
is_padded c =
    let small : c.self.inside.len + length c.args.label.now + 1
    ≤ 255 = omega (arith, fits c, c.self.invariant.counted) in
    ap (put_mid c.self.inside.len (c.self.inside.len + length c.args.label.now - c.self.inside.len)
    (set c.self.inside.octets (c.self.inside.len - 1) (length c.args.label.now))) c.copy_from_slice.ensures.after
    ∙ pushed_padded (old c) c.args.label.now c.self.inside.octets c.self.inside.len
    (length c.args.label.now) c.self.invariant.counted refl small c.self.invariant.spelled

pub invariant_of-self : goal.invariant_of-self
invariant_of-self c = holds_name (old c ++ c.args.label.now ∷ []) _ _ (is_name c) (is_padded c)
    (omega (arith, length-wire-push (old c) c.args.label.now, c.self.invariant.counted))

pub returns-clause-after : goal.returns-clause-after
returns-clause-after c = labels_of_wire-padded (old c ++ c.args.label.now ∷ []) _ (is_name c) (is_padded c)
    ∙ ap (λ n. n ++ c.args.label.now ∷ []) c.self.view_is

pub returns-clause-is_name : goal.returns-clause-is_name
returns-clause-is_name c = (invariant_of-self c).name
