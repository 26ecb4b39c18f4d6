use Rattle.sec_check.specs.RecordSets.{listed}
use Rattle.sec_check.proofs.Firsts.{firsts-any, firsts-distinct}
use Rattle.sec_check.proofs.KeySteps.{same_set_equiv}
use Rattle.sec_check.proofs.laws.sets_are_those_of_records.Goals as goal

pub returns-clause-each : goal.returns-clause-each
returns-clause-each c set records = firsts-any same_set_equiv set (listed records)

pub returns-clause-once : goal.returns-clause-once
returns-clause-once c records = firsts-distinct same_set_equiv (listed records)
