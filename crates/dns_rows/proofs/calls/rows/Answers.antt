use Rattle.std.proofs.Common.{◌≡◌, ◌<◌, length, arith}
use Rattle.std.specs.String.{string_bytes}
use Rattle.std.proofs.lemmas.Bool.Decides.{nat_tests}
use Rattle.dns_rows.proofs.RowSteps.{rows_none, rows_one, rows_all, shorter}
use Rattle.dns_rows.proofs.calls.rows.Goals as goal

pub lines-init : goal.lines-init
lines-init g c = rows_none g.C.Calls.answer_to c.args.octets.now _ c.new-text.ensures.bytes

pub lines-preserved : goal.lines-preserved
lines-preserved g c =
    let some : 0 < length c.lines.rest.now = grind (arith, nat_tests, c.lines-test.ensures) in
    rows_one g.C.Calls.answer_to c.args.octets.now c.lines.rest.now _ _ c.split_line.result.1.now _ _
    (c.split_line.ensures.lines some) c.without_return.ensures c.in_ok-push_row.ensures c.lines.invariant

pub lines-smaller : goal.lines-smaller
lines-smaller g c =
    shorter c.lines.rest.now c.split_line.result.1.now (grind (arith, nat_tests, c.lines-test.ensures))
    c.split_line.ensures.rest

pub returns : goal.returns
returns g c =
    let none : length c.lines.rest.now ≡ 0 = grind (arith, nat_tests, c.lines-test.ensures) in
    rows_all g.C.Calls.answer_to c.args.octets.now c.lines.rest.now _ none c.lines.invariant
