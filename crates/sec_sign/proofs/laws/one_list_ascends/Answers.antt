use Rattle.sec_sign.proofs.AscendingLaws.{ascends, ascending_same, ascending_one}
use Rattle.sec_sign.proofs.laws.one_list_ascends.Goals as goal

pub returns-clause-ascends : goal.returns-clause-ascends
returns-clause-ascends c = ascends

pub returns-clause-same : goal.returns-clause-same
returns-clause-same c = ascending_same

pub returns-clause-one : goal.returns-clause-one
returns-clause-one c = ascending_one
