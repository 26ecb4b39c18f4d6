-- The moved places and the one that is written are the list with it.
use Rattle.std.proofs.Common.{◌≡◌, ◌≤◌, sym, ap, ◌∙◌, length, arith}
use Rattle.std.proofs.lemmas.List.{length-take-le}
use Rattle.rrsig_input.proofs.PlaceLists.{put_there}
use Rattle.rrsig_input.proofs.place_list.PlaceList.insert_at.Goals as goal

pub returns : goal.returns
returns c =
    let places = c.self.inside.places in
    let count = c.self.inside.count in
    let fits : count ≤ length places = omega (arith, c.self.invariant) in
    let counted : length c.args.self.now ≡ count = sym (ap length c.self.view_is) ∙ length-take-le count places fits in
    rw (c.copy_within.ensures.after, ← c.self.view_is)
    (put_there places c.args.index count c.args.place (omega arith) (omega arith))
