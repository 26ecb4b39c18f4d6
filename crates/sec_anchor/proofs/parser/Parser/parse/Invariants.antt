use Rattle.std.proofs.Common.{◌≡◌, length}
use Rattle.std.specs.Prelude.{map}
use Rattle.dns_lexer.specs.Tokens.{items_left}
use Rattle.sec_anchor.specs.Entries.{entry_data, entries_ahead}
use Rattle.sec_anchor.proofs.LineSteps.{after}
use Rattle.sec_anchor.proofs.parser.Parser.parse.Given as goal

abbrev pub invariant-lines : goal.invariant-lines
invariant-lines l = after (map entry_data l.entries.items) (entries_ahead (items_left l.lexer))
    ≡ entries_ahead (items_left l.initial.lexer)

abbrev pub decreases-lines : goal.decreases-lines
decreases-lines l = length (items_left l.lexer)
