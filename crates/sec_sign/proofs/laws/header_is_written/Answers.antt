use Rattle.sec_sign.proofs.SignedWriting.{header_written}
use Rattle.sec_sign.proofs.laws.header_is_written.Goals as goal

pub returns : goal.returns
returns c = header_written
