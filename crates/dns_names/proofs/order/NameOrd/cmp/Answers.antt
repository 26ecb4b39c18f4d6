use Rattle.std.proofs.Common.{◌≡◌, ◌-◌, arith, ap, length, drop, sym, ◌∙◌}
use Rattle.std.proofs.lemmas.List.{length-drop}
use Rattle.dns_names.specs.Names.{low}
use Rattle.dns_names.proofs.FromRight.{outcome, outcome_whole}
use Rattle.dns_names.proofs.order.NameOrd.cmp.Goals as goal

-- the labels that are compared
left : (c : goal.After-cmp) → c.behind-left.result ≡ drop (c.label_count-m.result - c.label_count-n.result)
    (low c.args.self.now)
left c = c.behind-left.ensures ∙ (λ i. drop (c.saturating_sub.ensures i)
    ((c.iter.ensures.value ∙ c.to_lowercase-first.ensures.value) i))

right : (c : goal.After-cmp) → c.behind-right.result
    ≡ drop (c.label_count-n.result - c.label_count-m.result) (low c.args.other.now)
right c = c.behind-right.ensures ∙ (λ i. drop (c.saturating_sub-2.ensures i)
    ((c.iter-2.ensures.value ∙ c.to_lowercase-second.ensures.value) i))

-- how many labels there are
left_long : (c : goal.After-cmp) → length (low c.args.self.now) ≡ c.label_count-m.result
left_long c = sym (c.label_count-m.ensures ∙ ap length c.to_lowercase-first.ensures.value)

right_long : (c : goal.After-cmp) → length (low c.args.other.now) ≡ c.label_count-n.result
right_long c = sym (c.label_count-n.ensures ∙ ap length c.to_lowercase-second.ensures.value)

pub cmp_from_right-requires : goal.cmp_from_right-requires
cmp_from_right-requires c =
    omega (
      arith,
      ap length (left c),
      ap length (right c),
      left_long c,
      right_long c,
      length-drop
          (c.label_count-m.result - c.label_count-n.result) (low c.args.self.now),
      length-drop
          (c.label_count-n.result - c.label_count-m.result) (low c.args.other.now),
    )

pub returns : goal.returns
returns c =
    c.cmp_from_right.ensures
    ∙ (λ i. outcome (left c.before i) (right c.before i) (c.cmp.ensures i))
    ∙ outcome_whole (low c.args.self.now) (low c.args.other.now) c.label_count-m.result c.label_count-n.result
    (left_long c.before) (right_long c.before)
