use Rattle.std.proofs.Common.{◌≡◌, map, length}
use Rattle.std.specs.String.{string_bytes}
use Rattle.dns_lexer.specs.Tokens.{items_left}
use Rattle.dnsshow.specs.TextCalls.{token_texts}
use Rattle.dnsshow.proofs.Gathered.{after}
use Rattle.dnsshow.proofs.texts.token_texts.Given as goal

abbrev pub invariant-tokens : goal.invariant-tokens
invariant-tokens l = after (map string_bytes l.texts.items) (token_texts (items_left l.lexer))
    ≡ token_texts (items_left l.initial.lexer)

abbrev pub decreases-tokens : goal.decreases-tokens
decreases-tokens l = length (items_left l.lexer)
