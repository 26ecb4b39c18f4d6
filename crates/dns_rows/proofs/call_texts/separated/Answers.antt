use Rattle.std.proofs.Common.{◌<◌, ◌∙◌, length, arith}
use Rattle.std.proofs.lemmas.Bool.Decides.{nat_tests}
use Rattle.dns_rows.proofs.TextSteps.{joined_texts}
use Rattle.dns_rows.proofs.call_texts.separated.Goals as goal

pub returns : goal.returns
returns c =
    let some : 0 < length c.args.texts.now = grind (arith, nat_tests, c.is_empty.ensures) in
    c.in_ok-join.ensures.ok ∙ joined_texts c.args.separator.now c.args.texts.now some
