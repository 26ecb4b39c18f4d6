-- The tokens that entries are made of.
use Rattle.std.specs.Prelude.{Result, Ok, Err}
use Rattle.dns_lexer.specs.declared.lex_token.LexToken.{LexToken}
use Rattle.dns_lexer.specs.declared.lex_token.LexToken.TheVariants as tokens
use Rattle.sec_anchor.specs.declared.token.Token.{Token}
use Rattle.sec_anchor.specs.declared.token.Token.TheVariants.{Blank, CharData, EOL}
use Rattle.sec_anchor.specs.declared.parse_error.ParseError.{ParseError}
use Rattle.sec_anchor.specs.declared.parse_error.ParseError.TheVariants as errors

-- the token of the lexer that a token is
abbrev pub lex_token : Token → LexToken
lex_token Blank = tokens.Blank
lex_token (CharData text) = tokens.CharData text
lex_token EOL = tokens.EOL

-- the token that one of the lexer is, where entries may have it
abbrev pub entry_token : LexToken → Result Token ParseError
entry_token tokens.Blank = Ok Blank
entry_token (tokens.CharData text) = Ok (CharData text)
entry_token tokens.EOL = Ok EOL
entry_token token = Err (errors.UnexpectedToken token)
