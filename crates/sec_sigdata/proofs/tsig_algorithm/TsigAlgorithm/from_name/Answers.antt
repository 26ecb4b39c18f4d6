use Rattle.std.proofs.Common.{ap, ◌∙◌}
use Rattle.sec_sigdata.specs.TsigAlgorithms.{algorithm_name, named_algorithms}
use Rattle.sec_sigdata.proofs.TsigNames.{among_named}
use Rattle.sec_sigdata.proofs.tsig_algorithm.TsigAlgorithm.from_name.Goals as goal

pub returns-clause-name : goal.returns-clause-name
returns-clause-name c = ap algorithm_name c.algorithm_among.ensures ∙ among_named named_algorithms c.args.name
