use Rattle.std.proofs.Common.{ℕ, List, ◌++◌, ap, ◌∙◌, add-one}
use Rattle.sec_digest.specs.Digests.{iterated_hash}
use Rattle.sec_digest.proofs.hash.iterated.Goals as goal

pub loop-init : goal.loop-init
unfolding iterated_hash
loop-init g c = c.of_two-digest.ensures

pub loop-preserved : goal.loop-preserved
unfolding iterated_hash
loop-preserved g c = rw add-one (c.of_two-digest-in-loop.ensures
    ∙ ap (λ (digest : List ℕ). g.D.HashOutput.hash (digest ++ c.args.salt.now)) (c.as_slice.ensures ∙ c.loop.invariant))
