use Rattle.sec_sigdata.specs.Signatures.{rrsig_data}
use Rattle.sec_sign.specs.Signers.{signer_data, signing_key}
use Rattle.sec_sign.proofs.SigningLaws.{string_to_sign, verified_string}
use Rattle.sec_sign.proofs.laws.signing_law.Goals as goal

pub returns : goal.returns
returns g c =
    let key = signing_key c.args.signer.now in
    let sig = rrsig_data c.args.rrsig.now in
    let set = c.args.rr_set.now in
    let made = c.requires.signed in
    verified_string (g.S.SignatureScheme.accepts c.args.scheme.now) (g.V.Verifier.checked_by c.args.verifier.now) sig
    set.name c.args.zone_class set.records made.0
    (string_to_sign ((g.dyn-1.0.entry key.vtable).1.algorithm_of_key key.value) (signer_data c.args.signer.now) set
    c.args.zone_class c.args.inception sig.input made.0 made.1)
    c.requires.form (c.requires.accepts made.0 sig.sig made.2)
