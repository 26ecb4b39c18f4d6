use Rattle.std.proofs.Common.{◌≡◌, ◌++◌, length}
use Rattle.dns_text.specs.Words.{words}
use Rattle.sec_anchor.specs.Entries.{spaced}
use Rattle.dnsshow.proofs.joined_words.joined.Given as goal

abbrev pub invariant-words : goal.invariant-words
invariant-words l =
    l.text.items ++ spaced (words l.rest) ≡ l.initial.text.items ++ spaced (words l.initial.rest)

abbrev pub decreases-words : goal.decreases-words
decreases-words l = length (words l.rest)
