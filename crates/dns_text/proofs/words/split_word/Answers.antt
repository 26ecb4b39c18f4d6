use Rattle.std.proofs.Common.{◌≡◌, ◌<◌, length, arith}
use Rattle.std.proofs.lemmas.Bool.Decides.{nat_tests}
use Rattle.dns_text.proofs.Cuts.{no_words, first_word}
use Rattle.dns_text.proofs.words.split_word.Goals as goal

pub returns-then-is_empty-clause-words : goal.returns-then-is_empty-clause-words
returns-then-is_empty-clause-words c =
    let none : length c.from_word-rest.result.now ≡ 0 = grind (arith, nat_tests, c.if-is_empty.ensures) in
    no_words c.args.line.now _ c.from_word-rest.ensures none

pub returns-clause-words : goal.returns-clause-words
returns-clause-words c =
    let some : 0 < length c.from_word-rest.result.now = grind (arith, nat_tests, c.if-is_empty.ensures) in
    first_word c.args.line.now _ _ _ c.from_word-rest.ensures some c.split_blank.ensures.word c.split_blank.ensures.rest
