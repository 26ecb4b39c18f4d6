use Rattle.std.proofs.Common.{sym, ◌∙◌, arith}
use Rattle.sec_keydata.specs.PublicKeyFields.{lent_fields}
use Rattle.sec_keydata.proofs.TagSums.{tag_is}
use Rattle.sec_keydata.proofs.dnskey_fields.DnskeyFields.tag.Goals as goal

pub returns : goal.returns
returns c = tag_is (lent_fields c.args.self.now) c.head.result _ _ _ (sym c.is_too_long.ensures
    ∙ c.if-is_too_long.false) (omega arith) c.head.ensures c.octet_sum.ensures.sum c.octet_sum-2.ensures.sum
    c.tag_of_sum.ensures
