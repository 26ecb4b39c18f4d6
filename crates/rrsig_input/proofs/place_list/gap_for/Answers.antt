-- A comparison halves what is left to search.
use Rattle.std.proofs.Common.{◌+◌, ◌-◌, ◌/◌, refl, sym, ◌∙◌, arith}
use Rattle.rrsig_input.proofs.PlaceLists.{between_none, between_less, between_greater, between_equal, between_all}
use Rattle.rrsig_input.proofs.place_list.gap_for.Goals as goal

pub halves-init : goal.halves-init
halves-init g c = record { between = between_none _ _ _; source = refl }

pub compare-requires-clause-place : goal.compare-requires-clause-place
compare-requires-clause-place g c =
    rw c.halves.invariant.source
    (c.requires.listed (c.halves.low + (c.halves.high - c.halves.low) / 2) 0
    (omega (arith, c.halves.invariant.between.within)))

pub returns-in-Equal-clause-found : goal.returns-in-Equal-clause-found
returns-in-Equal-clause-found g c =
    let equal = rw c.halves.invariant.source at (sym c.compare.ensures.order ∙ c.in-Equal.is) in
    between_equal _ _ c.halves.low c.halves.high (c.halves.low + (c.halves.high - c.halves.low) / 2) _ c.requires.ascend
    c.halves.invariant.between (omega arith) equal

pub halves-preserved-in-Less : goal.halves-preserved-in-Less
halves-preserved-in-Less g c =
    let less = rw c.halves.invariant.source at (sym c.compare.ensures.order ∙ c.in-Less.is) in
    record {
      between = between_less _ _ c.halves.low c.halves.high (c.halves.low + (c.halves.high - c.halves.low) / 2) _
          c.requires.ascend c.halves.invariant.between (omega arith) less;
      source = c.compare.ensures.same ∙ c.halves.invariant.source;
    }

pub halves-preserved : goal.halves-preserved
halves-preserved g c =
    let greater = rw c.halves.invariant.source at (sym c.compare.ensures.order ∙ c.in-Greater.is) in
    record {
      between = between_greater _ _ c.halves.low c.halves.high (c.halves.low + (c.halves.high - c.halves.low) / 2) _
          c.requires.ascend c.halves.invariant.between (omega arith) (omega arith) greater;
      source = c.compare.ensures.same ∙ c.halves.invariant.source;
    }

pub returns-clause-missing : goal.returns-clause-missing
returns-clause-missing g c = between_all _ _ c.halves.low c.halves.high _ c.halves.invariant.between (omega arith)
