use Rattle.std.proofs.Common.{◌≡◌, ◌≤◌, ◌∙◌, List, ℕ, length, sym, ap, refl, Ok, arith}
use Rattle.dns_wire.specs.Reading.{octets, place}
use Rattle.dns_names.specs.Places.{name_at}
use Rattle.dns_names.specs.Skipping.{without_value}
use Rattle.dns_names.proofs.PlaceLaws.{Skipped, skipped, name_at_complete, name_at_one, no_name_skipped}
use Rattle.dns_names.proofs.name.Name.skip_with.Goals as goal

-- what was skipped in the octets of a decoder, at its place
passed : (m buffer : List ℕ) (p index e q : ℕ) → e ≤ length m → buffer ≡ m → index ≡ p
    → without_value (name_at buffer index e) ≡ Ok (tt, q) → Skipped m p e q
passed m buffer p index e q within same at h = skipped m p e q within
    (sym (λ i. without_value (name_at (same i) (at i) e)) ∙ h)

pub returns-in_err-next-clause-only : goal.returns-in_err-next-clause-only
returns-in_err-next-clause-only c n next h =
    absurd (no_name_skipped _ _ _ (sym (λ i. without_value
    (name_at (c.buffer.ensures i) (c.index.ensures.place i) c.args.end)) ∙ c.in_err-next.ensures.value)
    (name_at_complete _ _ _ n next h))

pub set_index-requires : goal.set_index-requires
set_index-requires c =
    let p = passed (octets c.args.decoder.now) _ (place c.args.decoder.now) _ _ _ c.requires.inside c.buffer.ensures
    c.index.ensures.place c.in_ok-next.ensures.value in
    record { inside = omega (arith, p.inside, c.requires.inside) }

pub returns-clause-found : goal.returns-clause-found
returns-clause-found c =
    let p = passed (octets c.args.decoder.now) _ (place c.args.decoder.now) _ _ _ c.requires.inside c.buffer.ensures
    c.index.ensures.place c.in_ok-next.ensures.value in
    (p.name, rw c.set_index.ensures.place p.stands)

pub returns-clause-only : goal.returns-clause-only
returns-clause-only c n next h =
    let p = passed (octets c.args.decoder.now) _ (place c.args.decoder.now) _ _ _ c.requires.inside c.buffer.ensures
    c.index.ensures.place c.in_ok-next.ensures.value in
    (refl, c.set_index.ensures.place ∙ (name_at_one _ _ _ _ _ _ _ p.stands h).1)

pub returns-clause-exact : goal.returns-clause-exact
returns-clause-exact c =
    let p = passed (octets c.args.decoder.now) _ (place c.args.decoder.now) _ _ _ c.requires.inside c.buffer.ensures
    c.index.ensures.place c.in_ok-next.ensures.value in (
      ap without_value (name_at_complete _ _ _ _ _ p.stands)
          ∙ ap (λ q. Ok (tt, q)) (sym c.set_index.ensures.place),
      c.set_index.ensures.octets,
      omega
          (arith, p.forward, c.set_index.ensures.place),
    )

pub returns-clause-inside : goal.returns-clause-inside
returns-clause-inside c =
    let p = passed (octets c.args.decoder.now) _ (place c.args.decoder.now) _ _ _ c.requires.inside c.buffer.ensures
    c.index.ensures.place c.in_ok-next.ensures.value in
    omega (arith, p.inside, c.set_index.ensures.place)
