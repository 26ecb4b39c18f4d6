use Rattle.std.proofs.Common.{ℕ, rules}
use Rattle.std.specs.declared.alloc.Global.{Global}
use Rattle.std.specs.declared.vec.Vec.{Vec}
use Rattle.sec_sign.specs.Signers.{signer_data, signing_key}
use Rattle.sec_sign.proofs.SigningSteps.{what_to_sign, refused}
use Rattle.sec_sign.proofs.signing.RRSIGSignRrset.from_rrset.Goals as goal

pub returns : goal.returns
returns g c =
    let key = signing_key c.args.signer.now in
    let meanings = (g.dyn-1.0.entry key.vtable).1 in
    refused {A = Vec ℕ Global} (meanings.signs key.value) (meanings.refuses key.value)
    (λ signature. meanings.signs key.value c.in_ok-tbs.tbs signature.items) _ c.in_ok-input.input c.in_ok-tbs.tbs
    c.in-Err.cause
    (what_to_sign _ (signer_data c.args.signer.now) c.args.rr_set.now c.args.zone_class c.args.inception
    c.in_ok-expiration.expiration c.in_ok-input.input c.in_ok-set.set c.in_ok-tbs.tbs (search rules) (search rules)
    (search rules) (search rules))
    c.in-Err.ensures
