use Rattle.std.proofs.Common.{◌≡◌, length}
use Rattle.std.specs.String.{string_bytes}
use Rattle.dns_lexer.specs.Tokens.{items_left}
use Rattle.sec_anchor.specs.Entries.{words_ahead}
use Rattle.sec_anchor.specs.Lines.{first_line, behind_line, extended}
use Rattle.sec_anchor.proofs.parser.with_words.Given as goal

abbrev pub invariant-words : goal.invariant-words
invariant-words l = record {
  text : extended (string_bytes l.text) (words_ahead (first_line (items_left l.lexer)))
      ≡ extended (string_bytes l.initial.text) (words_ahead (first_line (items_left l.initial.lexer)));
  behind : behind_line (items_left l.lexer) ≡ behind_line (items_left l.initial.lexer);
}

abbrev pub decreases-words : goal.decreases-words
decreases-words l = length (items_left l.lexer)
