use Rattle.std.proofs.Common.{IsTrue}
use Rattle.sec_anchor.specs.Anchors.{anchors, held}
use Rattle.sec_anchor.proofs.KeyLists.{named_by, trusted_named, not_true}
use Rattle.sec_anchor.proofs.anchors.TrustAnchors.contains_with_name.Goals as goal

pub returns-else-is_root : goal.returns-else-is_root
returns-else-is_root g c =
    trusted_named (anchors c.args.self.now) c.args.name.now (g.P.PublicKey.key c.args.key.now)
    (IsTrue c.is_named.result)
    (λ e. not_true c.is_root.result c.if-is_root.false (c.is_root.ensures.root.1 e))
    (named_by held c.args.name.now (IsTrue c.is_named.result) c.public_bytes.result.now c.algorithm.result
    (g.P.PublicKey.key c.args.key.now) c.deref.result.now c.args.self.now.named_keys.items
    c.public_bytes.ensures c.algorithm.ensures c.deref.ensures.value c.is_named.ensures)
