use Rattle.std.proofs.Common.{◌≡◌, length}
use denote.Text.{Utf8}
use denote.Shadow.{shadow}
use Rattle.dns_lexer.specs.Tokens.{items_behind}
use Rattle.dns_lexer.proofs.text.behind_gap.Given as goal

abbrev pub invariant-gaps : goal.invariant-gaps
invariant-gaps l = shadow (Utf8 l.rest) × (items_behind 0 l.rest ≡ items_behind 0 l.fn.text)

abbrev pub decreases-gaps : goal.decreases-gaps
decreases-gaps l = length l.rest
