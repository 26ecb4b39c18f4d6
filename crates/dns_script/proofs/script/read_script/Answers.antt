use Rattle.std.proofs.Common.{◌≡◌, ◌<◌, length, inr, sym, ap, ◌∙◌, arith}
use Rattle.std.specs.Option.{ok_or}
use Rattle.std.proofs.lemmas.Bool.Decides.{nat_tests}
use Rattle.dns_script.specs.declared.error.ScriptError.TheVariants.{Fault}
use Rattle.dns_script.specs.declared.reason.Reason.TheVariants.{End}
use Rattle.dns_script.proofs.ScriptLines.{goes_on, one_more, shorter, stops, ends}
use Rattle.dns_script.proofs.script.read_script.Goals as goal

pub lines-preserved : goal.lines-preserved
lines-preserved g c =
    let some : 0 < length c.lines.rest.now = grind (arith, nat_tests, c.lines-test.ensures) in
    let first = c.split_line.ensures.lines some in
    let less : length c.split_line.result.1.now < length c.lines.rest.now =
    shorter c.lines.rest.now _ some c.split_line.ensures.rest in
    record {
      numbered = omega (
        arith,
        c.lines.invariant.numbered,
        one_more g.L.Lines.kind c.lines.number c.lines.said c.lines.rest.now _ _
            c.split_line.result.1.now first c.without_return.ensures,
      );
      few = omega (arith, c.lines.invariant.few, less);
      left = sym (goes_on g.L.Lines.kind c.lines.number c.lines.said c.lines.rest.now _ _
          c.split_line.result.1.now first c.without_return.ensures _ c.in_default.ensures) ∙ c.lines.invariant.left;
    }

pub returns-in-Err : goal.returns-in-Err
returns-in-Err g c =
    let some : 0 < length c.lines.rest.now = grind (arith, nat_tests, c.lines-test.ensures) in
    rw c.numbered.ensures (stops g.L.Lines.kind c.args.octets.now c.lines.number c.lines.said c.lines.rest.now
    c.lines.invariant.left _ _ c.split_line.result.1.now _ (c.split_line.ensures.lines some) c.without_return.ensures
    c.in-Err.ensures)

pub returns-in-Some : goal.returns-in-Some
returns-in-Some g c =
    let none : length c.lines.rest.now ≡ 0 = grind (arith, nat_tests, c.lines-test.ensures) in
    ends g.L.Lines.kind c.args.octets.now c.lines.number c.lines.said c.lines.rest.now c.lines.invariant.left none
    c.lines.invariant.numbered ∙ ap (λ script. ok_or script (Fault c.lines.number End)) (sym c.in-Some.ensures)

pub returns-in-None : goal.returns-in-None
returns-in-None g c =
    let none : length c.lines.rest.now ≡ 0 = grind (arith, nat_tests, c.lines-test.ensures) in
    inr (ends g.L.Lines.kind c.args.octets.now c.lines.number c.lines.said c.lines.rest.now c.lines.invariant.left none
    c.lines.invariant.numbered ∙ ap (λ script. ok_or script (Fault c.lines.number End)) (sym c.in-None.ensures))
