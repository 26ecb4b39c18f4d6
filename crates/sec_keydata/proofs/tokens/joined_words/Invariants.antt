use Rattle.std.proofs.Common.{◌≡◌, ◌++◌, length}
use Rattle.std.specs.List.{concat}
use Rattle.dns_text.specs.Words.{words}
use Rattle.sec_keydata.proofs.tokens.joined_words.Given as goal

abbrev pub invariant-words : goal.invariant-words
invariant-words l = l.joined.items ++ concat (words l.line) ≡ l.initial.joined.items ++ concat (words l.initial.line)

abbrev pub decreases-words : goal.decreases-words
decreases-words l = length (words l.line)
