use Rattle.std.proofs.Common.{ap, ◌∙◌, rules}
use Rattle.sec_check.specs.Indexes.{items_of}
use Rattle.sec_check.proofs.Puts.{values_put}
use Rattle.sec_check.proofs.multimap.Multimap.put.Goals as goal

pub returns : goal.returns
returns g c q =
    let put =
    ap items_of ((c.in_ok-self.ensures.update.0 c.push.new.self).0 q)
    ∙ values_put g.met.K.Ord.total c.args.self.now.by_key c.args.key _ c.in_ok-self.ensures.value c.args.value
    c.new.result c.or_insert-values.result.now c.push.new.self c.new.ensures.items
    c.or_insert-values.ensures.value c.in_ok-push.ensures.items q in
    search (rules, put)
