use Rattle.std.proofs.Common.{arith}
use Rattle.std.proofs.lemmas.List.Sums.{prefix_len-le-length}
use Rattle.std.specs.Char.{is_ascii_digit}
use Rattle.std.specs.Prelude.{not}
use Rattle.dns_text.proofs.Cuts.{place_none}
use Rattle.dns_lexer.proofs.ttl.digit_count.Goals as goal

pub returns-in-None-clause-value : goal.returns-in-None-clause-value
returns-in-None-clause-value c =
    let none = place_none (λ x. not (is_ascii_digit x)) c.args.text.now c.in-None.ensures in
    let most = prefix_len-le-length (λ x. not (not (is_ascii_digit x))) c.args.text.now in
    omega arith
