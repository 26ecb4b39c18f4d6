use Rattle.sec_digest.proofs.Finishing.{finish256, finish384, finish512}
use Rattle.sec_digest.proofs.hmac.Hmac.finish.Goals as goal

pub returns-in-Sha256-clause-value : goal.returns-in-Sha256-clause-value
returns-in-Sha256-clause-value c hash key message fed =
    finish256 c.in-Sha256.keyed c.finish_sha256.result c.finish_sha256.ensures hash key message
    (rw c.in-Sha256.is at fed.taken)

pub returns-in-Sha384-clause-value : goal.returns-in-Sha384-clause-value
returns-in-Sha384-clause-value c hash key message fed =
    finish384 c.in-Sha384.keyed c.finish_sha384.result c.finish_sha384.ensures hash key message
    (rw c.in-Sha384.is at fed.taken)

pub returns-in-Sha512-clause-value : goal.returns-in-Sha512-clause-value
returns-in-Sha512-clause-value c hash key message fed =
    finish512 c.in-Sha512.keyed c.finish_sha512.result c.finish_sha512.ensures hash key message
    (rw c.in-Sha512.is at fed.taken)
