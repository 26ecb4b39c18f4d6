use Rattle.std.proofs.Common.{refl}
use Rattle.sec_digest.specs.Base32.{digit_of}
use Rattle.sec_digest.proofs.Digits.{digit-ascii}
use Rattle.sec_digest.proofs.base32.digit.Goals as goal

pub returns-clause-value : goal.returns-clause-value
unfolding digit_of
returns-clause-value c = refl

pub returns-clause-ascii : goal.returns-clause-ascii
unfolding digit_of
returns-clause-ascii c = digit-ascii c.args.value c.requires
