use Rattle.sec_codes.proofs.Added.{members_had}
use Rattle.sec_codes.proofs.laws.members_are_had.Goals as goal

pub returns : goal.returns
returns c = members_had
