use Rattle.std.proofs.Common.{◌+◌, inl, inr, get_or, sym, ◌∙◌, arith}
use Rattle.std.proofs.lemmas.Bool.{cases_lt}
use Rattle.dns_types.proofs.TypeBits.{or_past}
use Rattle.dns_types.proofs.type_form.merge_at.Goals as goal

pub returns-clause-merged : goal.returns-clause-merged
returns-clause-merged c k =
    elim (cases_lt k c.loop-i.i) [
      | inl below ↦ c.loop-i.invariant.merged k below
      | inr past ↦ c.loop-i.invariant.behind k past
          ∙ sym (or_past (get_or c.args.octets.now (c.args.start + k) 0) c.args.bits.now k (omega arith))
    ]
