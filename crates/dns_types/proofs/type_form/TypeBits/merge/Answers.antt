use Rattle.std.proofs.Common.{◌≡◌, ◌+◌, ◌*◌, ◌%◌, ◌/◌, ◌++◌, ◌||◌, ◌&&◌, bit_or, get_or, take, drop, length, ap, ◌∙◌}
use Rattle.std.proofs.Common.{arith}
use Rattle.std.specs.Prelude.{nat_eq}
use Rattle.std.proofs.lemmas.List.{take_at}
use Rattle.dns_types.specs.TypeSets.{has_type_bit}
use Rattle.dns_types.proofs.TypeBits.{bits_merged_after}
use Rattle.dns_types.proofs.type_form.TypeBits.merge.Goals as goal

pub returns : goal.returns
returns c n =
    let new = c.merge_at.new.octets in
    let bits = c.bits-bits.result.now in
    let room : c.deref_mut.result.now ≡ c.make_room.new.self = c.deref_mut.ensures.value ∙ c.self.view_is in
    let whole : take c.self.inside.octets.len (new ++ drop (length new) c.self.inside.octets.items)
    ≡ new = take_at new (drop (length new) c.self.inside.octets.items) c.self.inside.octets.len (omega arith) in
    ap (λ xs. has_type_bit xs n) whole
    ∙ bits_merged_after c.args.self.now c.make_room.new.self new bits c.from-start.result
    c.bits-bits.ensures.at_most_32 c.in_ok-make_room.ensures.bits
    (λ k h. c.merge_at.ensures.before k h ∙ ap (λ xs. get_or xs k 0) room)
    (λ k. c.merge_at.ensures.merged k ∙ ap (λ xs. bit_or (get_or xs (32 * c.from-start.result + k) 0)
    (get_or bits k 0)) room) n
    ∙ (λ i. has_type_bit c.args.self.now n ||
    (nat_eq ((c.from-start.ensures ∙ c.window.ensures) i) (n / 256)
    && has_type_bit (c.bits-bits.ensures.value i) (n % 256)))
