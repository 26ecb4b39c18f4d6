use Rattle.dns_grammar.proofs.TsigLaws.{signature_whole}
use Rattle.dns_grammar.proofs.laws.signature_is_whole.Goals as goal

pub returns : goal.returns
returns c = signature_whole
