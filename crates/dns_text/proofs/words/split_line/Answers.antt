use Rattle.std.proofs.Common.{◌+◌, take, drop, sym, ap, ◌∙◌, arith}
use Rattle.std.proofs.lemmas.List.{take_all, drop_all, take_rest}
use Rattle.dns_text.specs.Words.{is_line_feed}
use Rattle.dns_text.proofs.Cuts.{first_line, place_some, place_none}
use Rattle.dns_text.proofs.words.split_line.Goals as goal

pub returns-in-Some-clause-lines : goal.returns-in-Some-clause-lines
returns-in-Some-clause-lines c =
    let octets = c.args.octets.now in
    let place = place_some is_line_feed octets c.in-Some.end c.in-Some.ensures in
    λ some. first_line octets _ _ some (ap (λ n. take n octets) place)
    (take_rest octets (c.in-Some.end + 1) ∙ ap (λ n. drop (n + 1) octets) place)

pub returns-in-None-clause-lines : goal.returns-in-None-clause-lines
returns-in-None-clause-lines c =
    let octets = c.args.octets.now in
    let none = place_none is_line_feed octets c.in-None.ensures in
    λ some. first_line octets _ _ some (sym (take_all _ octets none)) (sym (drop_all _ octets (omega arith)))
