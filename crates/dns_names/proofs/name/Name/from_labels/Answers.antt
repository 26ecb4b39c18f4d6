use Rattle.std.proofs.Common.{◌≡◌, ◌<◌, ◌+◌, ◌∷◌, ◌++◌, List, ℕ, [], take, drop, get_or, ap, ◌∙◌, sym, length, add-one}
use Rattle.std.proofs.Common.{drop-cons}
use Rattle.std.proofs.lemmas.Result.{err_from_is_err_and}
use Rattle.std.proofs.lemmas.List.{take_more, take-append-drop}
use Rattle.dns_names.proofs.AboveBelow.{added_label, too_long}
use Rattle.dns_names.proofs.name.Name.from_labels.Goals as goal

-- the labels before one, the label, and those behind it
parted : (labels : List (List ℕ)) (i : ℕ) (d : List ℕ) → i < length labels
    → take i labels ++ get_or labels i d ∷ drop (i + 1) labels ≡ labels
parted labels i d h = ap (λ t. take i labels ++ t) (rw (add-one) (sym (drop-cons labels i d h)))
    ∙ take-append-drop i labels

pub returns-in_err-add_label : goal.returns-in_err-add_label
returns-in_err-add_label c =
    let p = err_from_is_err_and c.from_residual.result c.from_residual.ensures.1 in
    let item : c.as_slice.result.now ≡ get_or c.args.labels.now c.loop-label.label-index c.label-item.result =
    c.as_slice.ensures.value ∙ c.label-item.is in
    let joined : c.loop-label.name ++ c.as_slice.result.now ∷ drop (c.loop-label.label-index + 1) c.args.labels.now
    ≡ c.args.labels.now =
    (λ i. c.loop-label.invariant.0 i ++ item i ∷ drop (c.loop-label.label-index + 1) c.args.labels.now)
    ∙ parted c.args.labels.now c.loop-label.label-index c.label-item.result c.loop-label-test.true in
    rw (p.1, p.2) (too_long c.loop-label.name c.as_slice.result.now
    (drop (c.loop-label.label-index + 1) c.args.labels.now) c.args.labels.now _
    (rw c.as_slice.ensures.value c.as_slice.ensures.label) joined c.in_err-add_label.ensures)

pub loop-label-preserved : goal.loop-label-preserved
loop-label-preserved c =
    let more : take (c.loop-label.label-index + 1) c.args.labels.now
    ≡ take c.loop-label.label-index c.args.labels.now
    ++ get_or c.args.labels.now c.loop-label.label-index c.label-item.result
    ∷ [] = take_more _ _ _ c.loop-label-test.true in (
      (added_label _ _ _ c.in_ok-add_label.ensures.0).is
          ∙ (λ i. c.loop-label.invariant.0 i ++ (c.as_slice.ensures.value ∙ c.label-item.is) i ∷ [])
          ∙ sym more,
      c.in_ok-add_label.ensures.1,
    )
