use Rattle.std.proofs.Common.{◌∙◌, ap, length, List, ℕ, arith, subst, sym}
use Rattle.std.specs.Prelude.{IsOk}
use Rattle.dns_wire.specs.Reading.{octets, place}
use Rattle.message_walk.specs.Places.{record_from}
use Rattle.message_walk.proofs.RecordSteps.{found_end, found_place, head_stands_there, stands_behind}
use Rattle.message_walk.proofs.record_walk.step.Goals as goal

pub set_index-requires : goal.set_index-requires
set_index-requires c =
    let s = stands_behind (octets c.args.decoder.now) (place c.args.decoder.now) _ _ _ c.requires.stands
    c.in-Ok.ensures.exact.0 in
    let same = ap (λ (m : List ℕ). length m) c.in-Ok.ensures.exact.1 in
    record { inside = omega (arith, s.inside, same, c.index.ensures.place) }

pub returns-in-Ok-clause-stands : goal.returns-in-Ok-clause-stands
returns-in-Ok-clause-stands c =
    subst (λ p. IsOk (record_from (octets c.args.decoder.now) p)) (sym c.index-start.ensures.place) c.requires.stands

pub returns-in-Ok-clause-inside : goal.returns-in-Ok-clause-inside
returns-in-Ok-clause-inside c =
    let s = stands_behind (octets c.args.decoder.now) (place c.args.decoder.now) _ _ _ c.requires.stands
    c.in-Ok.ensures.exact.0 in
    omega (arith, s.inside, c.index.ensures.place, c.index-start.ensures.place, c.in-Ok.ensures.exact.2)

pub returns-in-Ok-clause-found : goal.returns-in-Ok-clause-found
returns-in-Ok-clause-found c =
    let s = stands_behind (octets c.args.decoder.now) (place c.args.decoder.now) _ _ _ c.requires.stands
    c.in-Ok.ensures.exact.0 in
    found_place (octets c.args.decoder.now) (place c.args.decoder.now) _ _ _ _ _ s c.args.section
    c.index-start.ensures.place c.index.ensures.place

pub returns-in-Ok-clause-place : goal.returns-in-Ok-clause-place
returns-in-Ok-clause-place c =
    let s = stands_behind (octets c.args.decoder.now) (place c.args.decoder.now) _ _ _ c.requires.stands
    c.in-Ok.ensures.exact.0 in
    c.set_index.ensures.place
    ∙ found_end (octets c.args.decoder.now) (place c.args.decoder.now) _ _ _ 0 _ s c.index.ensures.place

pub returns-in-Err-clause-found : goal.returns-in-Err-clause-found
returns-in-Err-clause-found c =
    absurd (head_stands_there (octets c.args.decoder.now) (place c.args.decoder.now) _ c.requires.stands
    c.in-Err.ensures.exact.0)

pub returns-in-Err-clause-place : goal.returns-in-Err-clause-place
returns-in-Err-clause-place c =
    absurd (head_stands_there (octets c.args.decoder.now) (place c.args.decoder.now) _ c.requires.stands
    c.in-Err.ensures.exact.0)
