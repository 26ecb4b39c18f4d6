use Rattle.std.proofs.Common.{ℕ, List, ◌≡◌, ◌≤◌, length, sym, ◌∙◌, subst, arith}
use Rattle.std.specs.Prelude.{IsSome}
use Rattle.sec_tsig.specs.Requests.{signed_request}
use Rattle.signer_lines.proofs.SignedRequests.{request_has_header}
use Rattle.signer_lines.proofs.request.sign_request.Goals as goal

pub sign_octets-requires : goal.sign_octets-requires
sign_octets-requires c =
    let is : IsSome (signed_request c.args.signer.now c.args.time c.deref.result.now) =
    grind (arith, c.can_sign_request.ensures c.args.time c.requires, c.if-not-can_sign_request.ensures) in
    subst (λ (l : List ℕ). 12 ≤ length l) (c.deref.ensures.value ∙ sym c.deref-2.ensures.value)
    (request_has_header c.args.signer.now c.args.time c.deref.result.now is)

pub append_tsig-requires : goal.append_tsig-requires
append_tsig-requires c =
    let is : IsSome (signed_request c.args.signer.now c.args.time c.deref.result.now) =
    grind (arith, c.can_sign_request.ensures c.args.time c.requires, c.if-not-can_sign_request.ensures) in
    subst (λ (l : List ℕ). 12 ≤ length l) c.deref.ensures.value
    (request_has_header c.args.signer.now c.args.time c.deref.result.now is)
