use Rattle.std.proofs.Common.{inl, inr, arith}
use Rattle.std.proofs.lemmas.Bool.{cases_lt}
use Rattle.dns_types.proofs.NextBits.{no_bit, next_bit}
use Rattle.dns_types.proofs.type_blocks.bit_from.Goals as goal

pub returns-then-octet-ne0 : goal.returns-then-octet-ne0
returns-then-octet-ne0 c =
    let next = next_bit c.args.bits.now c.loop-bit.bit c.loop-bit-test.true (omega (arith, c.if-octet-ne0.true)) in
    record {
      ahead = omega (arith, next.ahead, c.loop-bit.invariant.ahead);
      passes = next.passes;
      others = λ k ge lt. elim (cases_lt k c.loop-bit.bit)
          [ inl before ↦ c.loop-bit.invariant.others k ge before | inr after ↦ next.others k after lt ];
    }

pub loop-bit-preserved : goal.loop-bit-preserved
loop-bit-preserved c =
    record {
      ahead = omega (arith, c.loop-bit.invariant.ahead);
      others = λ k ge lt. elim (cases_lt k c.loop-bit.bit) [
        | inl before ↦ c.loop-bit.invariant.others k ge before
        | inr after ↦ no_bit c.args.bits.now c.loop-bit.bit
            c.loop-bit-test.true (omega (arith, c.if-octet-ne0.false)) k after lt
      ];
    }
