use Rattle.std.proofs.Common.{IsTrue}
use Rattle.sec_codes.specs.KeptKeys.{kept_key}
use Rattle.sec_anchor.proofs.KeyLists.{among_by}
use Rattle.sec_anchor.proofs.anchors.TrustAnchors.contains.Goals as goal

pub returns : goal.returns
returns g c =
    among_by kept_key (IsTrue c.is_among.result) c.public_bytes.result.now c.algorithm.result
    (g.P.PublicKey.key c.args.key.now) c.deref.result.now c.args.self.now.root_keys.items
    c.public_bytes.ensures c.algorithm.ensures c.deref.ensures.value c.is_among.ensures
