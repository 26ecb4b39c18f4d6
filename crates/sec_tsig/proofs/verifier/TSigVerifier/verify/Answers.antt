use Rattle.std.proofs.Common.{inl, refl, subst, ◌∙◌, ℕ, List}
use Rattle.dns_message.specs.Responses.{ReadsResponse}
use Rattle.sec_tsig.proofs.Accepted.{refused, wants_memory}
use Rattle.sec_tsig.proofs.verifier.TSigVerifier.verify.Goals as goal

pub returns-in-Err-clause-verdict : goal.returns-in-Err-clause-verdict
returns-in-Err-clause-verdict c =
    let reads = subst (λ (m : List ℕ). ReadsResponse m (refused c.in-Err.cause)) c.in-Ok.ensures.items c.in-Err.ensures in (
      inl (c.into.ensures ∙ wants_memory c.args.self.now _ c.args.response_bytes.now c.in-Err.cause
          c.in_ok-next.ensures.verdict reads),
      refl,
    )
