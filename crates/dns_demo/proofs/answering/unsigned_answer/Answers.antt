use Rattle.std.proofs.Common.{ap, arith, map}
use Rattle.dns_message.specs.Views.{query_view}
use Rattle.dns_demo.proofs.AnswersWritten.{can_be_answered}
use Rattle.dns_demo.proofs.answering.unsigned_answer.Goals as goal

pub message-requires-clause-writable : goal.message-requires-clause-writable
message-requires-clause-writable c =
    can_be_answered c.length_of_hmac.ensures c.args.number c.in_ok-owner.field-0 _ _ (omega arith)
    (ap (map query_view) c.new.ensures.items) c.in_ok-owner.ensures c.in_ok-records.ensures.views
