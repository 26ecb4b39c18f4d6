use Rattle.sec_digest.proofs.Base32Unique.{base32_unique}
use Rattle.sec_digest.proofs.laws.base32_is_unique.Goals as goal

pub returns : goal.returns
returns c = base32_unique
