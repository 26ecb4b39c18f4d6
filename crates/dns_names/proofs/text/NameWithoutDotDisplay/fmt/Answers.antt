use Rattle.std.proofs.Common.{◌≡◌, ◌∷◌, ◌++◌, List, ℕ, sym, ap, ◌∙◌}
use Rattle.std.specs.List.{flat_map}
use Rattle.std.proofs.lemmas.Grind.{put_two}
use Rattle.std.proofs.lemmas.Map.Iter.{iter_end}
use Rattle.dns_names.specs.NameText.{dot, octets_text, name_text_without_dot}
use Rattle.dns_names.proofs.text.NameWithoutDotDisplay.fmt.Goals as goal

pub returns-clause-writes : goal.returns-clause-writes
returns-clause-writes g c plain ok =
    let first = c.in_ok-write.ensures.writes plain ok in
    let rest = c.loop-label.invariant first.plain in
    let all = iter_end (λ label. label.now) c.next.new.self c.loop-label.yielded c.into_iter-label-iterator.result
    c.loop-label.label-iterator c.next-in-loop-label.new.self c.next-in-loop-label.result
    c.into_iter-label-iterator.ensures.into_iter_gives c.loop-label.yielded_by c.in-None.is
    c.next-in-loop-label.ensures.steps in
    let is : c.args.self.now.0.now ≡ c.in-Some.first.now ∷ c.next.new.self = sym c.iter-labels.ensures.value
    ∙ c.in-Some.ensures.steps in
    let after : List (List ℕ) → List ℕ = flat_map (λ next. dot ∷ octets_text next) in
    put_two _ _ _ _ _ _ _ first rest (ap (λ n. octets_text c.in-Some.first.now ++ after n) all.0
    ∙ ap name_text_without_dot (sym is))
