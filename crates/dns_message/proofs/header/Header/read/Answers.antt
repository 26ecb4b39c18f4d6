use Rattle.std.proofs.Common.{arith}
use Rattle.dns_message.proofs.NumberEnds.{number_end}
use Rattle.dns_message.proofs.header.Header.read.Goals as goal

-- six numbers of two octets
pub returns-clause-place : goal.returns-clause-place
returns-clause-place c =
    omega (
      arith,
      c.new-reader.ensures.place,
      number_end _ _ _ _ _ _ c.in_ok-id.ensures.exact.0,
      number_end _ _ _ _ _ _ c.in_ok-flags.ensures.exact.0,
      number_end _ _ _ _ _ _ c.in_ok-questions.ensures.exact.0,
      number_end _ _ _ _ _ _ c.in_ok-answers.ensures.exact.0,
      number_end _ _ _ _ _ _ c.in_ok-authorities.ensures.exact.0,
      number_end _ _ _ _ _ _ c.in_ok-additionals.ensures.exact.0,
    )
