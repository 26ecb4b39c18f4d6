use Rattle.dns_demo.proofs.Requests.{request_is_signed, request_is_written}
use Rattle.dns_demo.proofs.laws.request_is_signed.Goals as goal

pub returns-clause-written : goal.returns-clause-written
returns-clause-written c = request_is_written

pub returns-clause-signed : goal.returns-clause-signed
returns-clause-signed c = request_is_signed c.length_of_hmac.ensures
