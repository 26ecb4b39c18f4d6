use Rattle.std.proofs.Common.{ℕ, List, ◌++◌, length, drop, ap, refl, ◌∙◌}
use Rattle.std.proofs.lemmas.List.{drop-drop}
use Rattle.sec_tsig.specs.Tsig.{join}
use Rattle.sec_tsig.proofs.request_signing.put_signed.Goals as goal

pub returns : goal.returns
returns c octets is =
    let request = c.args.request.now in
    let room = c.args.buffer.now in
    let behind : List ℕ = drop (length request) room in
    c.append_record.ensures request behind octets (ap (λ (l : List ℕ). l ++ behind) c.copy_from_slice.ensures.after) refl is
    ∙ ap (λ (l : List ℕ). join request octets ++ l)
    (drop-drop (length octets) (length request) room)
