use Rattle.std.proofs.lemmas.Result.{err_from_is_err_and}
use Rattle.dns_message.proofs.ReadLaws.{read_parts, unread_parts}
use Rattle.dns_message.proofs.message.Message.from_vec.Goals as goal

pub returns-in_err-message-clause-read : goal.returns-in_err-message-clause-read
returns-in_err-message-clause-read c =
    let p = err_from_is_err_and c.from_residual.result c.from_residual.ensures.1 in
    rw (p.1, p.2) (unread_parts c.args.octets.now c.in_err-message.field-0.0 c.in_err-message.ensures.read)

pub returns-clause-read : goal.returns-clause-read
returns-clause-read c =
    read_parts c.args.octets.now c.in_ok-message.message c.in_ok-message._places c.in_ok-message.ensures.read
