use Rattle.std.proofs.Common.{arith}
use Rattle.std.proofs.lemmas.List.Sums.{prefix_len-le-length}
use Rattle.std.specs.Prelude.{not}
use Rattle.dns_text.specs.Words.{is_line_feed}
use Rattle.dns_text.proofs.Cuts.{place_some, place_none}
use Rattle.dns_lexer.proofs.text.line_len.Goals as goal

pub returns-in-Some-clause-value : goal.returns-in-Some-clause-value
returns-in-Some-clause-value c = place_some is_line_feed c.args.text.now c.in-Some.len c.in-Some.ensures

pub returns-in-Some-clause-within : goal.returns-in-Some-clause-within
returns-in-Some-clause-within c =
    let is = place_some is_line_feed c.args.text.now c.in-Some.len c.in-Some.ensures in
    let most = prefix_len-le-length (λ x. not (is_line_feed x)) c.args.text.now in
    omega arith

pub returns-in-None-clause-value : goal.returns-in-None-clause-value
returns-in-None-clause-value c =
    let none = place_none is_line_feed c.args.text.now c.in-None.ensures in
    let most = prefix_len-le-length (λ x. not (is_line_feed x)) c.args.text.now in
    omega arith
