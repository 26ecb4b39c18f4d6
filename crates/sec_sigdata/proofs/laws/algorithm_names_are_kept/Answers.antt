use Rattle.sec_sigdata.specs.TsigAlgorithms.{named_algorithms}
use Rattle.sec_sigdata.proofs.TsigNames.{among_named}
use Rattle.sec_sigdata.proofs.laws.algorithm_names_are_kept.Goals as goal

pub returns-clause-name : goal.returns-clause-name
returns-clause-name c n = among_named named_algorithms n
