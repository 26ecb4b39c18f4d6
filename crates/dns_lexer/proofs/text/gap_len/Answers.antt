use Rattle.std.proofs.Common.{subst, sym}
use Rattle.std.specs.Str.{IsCharBoundary}
use Rattle.dns_lexer.proofs.Gaps.{gap_boundary}
use Rattle.dns_lexer.proofs.text.gap_len.Goals as goal

pub returns-clause-boundary : goal.returns-clause-boundary
returns-clause-boundary c =
    subst (λ t. IsCharBoundary t c.gap_octets.result) c.as_bytes.ensures.value
    (subst (IsCharBoundary c.as_bytes.result.now) (sym c.gap_octets.ensures)
    (gap_boundary c.as_bytes.result.now c.as_bytes.ensures.utf8))
