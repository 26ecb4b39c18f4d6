use Rattle.std.proofs.Common.{◌∙◌, sym, ap, Ok, arith}
use Rattle.dns_wire.specs.Reading.{octets, place}
use Rattle.dns_names.specs.Places.{NameAt, name_at}
use Rattle.dns_names.proofs.PlaceLaws.{name_at_sound, name_at_complete, labels_next, labels_forward, ok_is}
use Rattle.dns_names.proofs.name.Name.read_with.Goals as goal

pub returns-in_err-name-clause-only : goal.returns-in_err-name-clause-only
returns-in_err-name-clause-only c n q h =
    let read = name_at_complete _ _ _ n q h in
    let fault = c.in_err-name.ensures.value ∙ (λ i. name_at (c.buffer.ensures i) (c.index.ensures.place i) c.args.end)
    in
    absurd (cc (fault ∙ read))

-- the name stands at the decoder's place
found : (c : goal.After-set_index-arg-1) → NameAt (octets c.args.decoder.now)
    (place c.args.decoder.now) c.args.end c.in_ok-name.name c.in_ok-name.next
found c = name_at_sound _ _ _ _ _ c.requires.inside
    (sym (c.in_ok-name.ensures.value ∙ (λ i. name_at (c.buffer.ensures i) (c.index.ensures.place i) c.args.end)))

pub set_index-requires : goal.set_index-requires
set_index-requires c = omega (arith, labels_next (found c).labels, c.requires.inside)

pub returns-clause-found : goal.returns-clause-found
returns-clause-found c = rw c.set_index.ensures.place
    (name_at_sound c.args.decoder.now.buffer.now c.args.decoder.now.index c.args.end c.in_ok-name.name c.in_ok-name.next
    c.requires.inside (sym (c.in_ok-name.ensures.value
    ∙ (λ i. name_at (c.buffer.ensures i) (c.index.ensures.place i) c.args.end))))

pub returns-clause-only : goal.returns-clause-only
returns-clause-only c n q h =
    let read = name_at_complete _ _ _ n q h in
    let same = c.in_ok-name.ensures.value ∙ (λ i. name_at (c.buffer.ensures i) (c.index.ensures.place i) c.args.end)
    ∙ read in
    let is = ok_is (c.in_ok-name.name, c.in_ok-name.next) (n, q) same in
    (ap (λ x. Ok x.0) is, c.set_index.ensures.place ∙ ap (λ x. x.1) is)

pub returns-clause-inside : goal.returns-clause-inside
returns-clause-inside c = rw c.set_index.ensures.place
    (labels_next (name_at_sound c.args.decoder.now.buffer.now c.args.decoder.now.index c.args.end c.in_ok-name.name
    c.in_ok-name.next c.requires.inside
    (sym (c.in_ok-name.ensures.value
    ∙ (λ i. name_at (c.buffer.ensures i) (c.index.ensures.place i) c.args.end)))).labels)

pub returns-clause-exact : goal.returns-clause-exact
returns-clause-exact c = (
  sym (c.in_ok-name.ensures.value ∙ (λ i. name_at (c.buffer.ensures i) (c.index.ensures.place i) c.args.end))
      ∙ ap (λ q. Ok (c.in_ok-name.name, q)) (sym c.set_index.ensures.place),
  c.set_index.ensures.octets,
  omega (
    arith,
    labels_forward (name_at_sound c.args.decoder.now.buffer.now c.args.decoder.now.index c.args.end
        c.in_ok-name.name c.in_ok-name.next c.requires.inside
        (sym (c.in_ok-name.ensures.value
        ∙ (λ i. name_at (c.buffer.ensures i) (c.index.ensures.place i) c.args.end)))).labels,
    c.set_index.ensures.place,
  ),
)
