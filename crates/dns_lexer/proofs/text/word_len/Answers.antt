use Rattle.std.proofs.Common.{subst}
use Rattle.std.specs.Str.{IsCharBoundary}
use Rattle.dns_lexer.proofs.Units.{boundary}
use Rattle.dns_lexer.proofs.text.word_len.Goals as goal

pub returns-clause-boundary : goal.returns-clause-boundary
returns-clause-boundary c =
    subst (λ t. IsCharBoundary t c.word_octets.result) c.as_bytes.ensures.value
    (boundary _ _ c.as_bytes.ensures.utf8 c.word_octets.ensures.within c.word_octets.ensures.ascii)
