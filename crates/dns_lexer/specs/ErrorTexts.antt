-- What an error and a token print: the name of the variant, and what that holds.
use Rattle.std.specs.Prelude.{ℕ, List, ◌++◌, codes}
use Rattle.std.specs.Fmt.{decimal}
use Rattle.std.specs.String.{string_bytes}
use Rattle.dns_lexer.specs.declared.lex_token.LexToken.{LexToken}
use Rattle.dns_lexer.specs.declared.lex_token.LexToken.TheVariants as tokens
use Rattle.dns_lexer.specs.declared.lex_error.LexError.{LexError}
use Rattle.dns_lexer.specs.declared.lex_error.LexError.TheVariants as lex_errors

abbrev pub lex_error_text : LexError → List ℕ
lex_error_text (lex_errors.UnrecognizedChar character) = codes "UnrecognizedChar " ++ decimal character
lex_error_text lex_errors.OutOfMemory = codes "OutOfMemory"

abbrev pub lex_token_text : LexToken → List ℕ
lex_token_text tokens.Blank = codes "Blank"
lex_token_text (tokens.CharData word) = codes "CharData " ++ string_bytes word
lex_token_text tokens.EOL = codes "EOL"
lex_token_text tokens.At = codes "At"
lex_token_text tokens.Include = codes "Include"
lex_token_text tokens.Origin = codes "Origin"
lex_token_text tokens.Ttl = codes "Ttl"
lex_token_text tokens.List = codes "List"
