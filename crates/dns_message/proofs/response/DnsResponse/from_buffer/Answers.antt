use Rattle.std.proofs.Common.{refl, sym, ◌∙◌}
use Rattle.dns_message.proofs.ResponseLaws.{is_response, no_message}
use Rattle.dns_message.proofs.response.DnsResponse.from_buffer.Goals as goal

pub returns-then-is_response : goal.returns-then-is_response
returns-then-is_response c =
    is_response c.args.buffer.items c.in-Ok.message _ (rw c.as_slice.ensures.value at c.in-Ok.ensures.read)
    c.in-Ok.ensures.as_read (sym c.is_response.ensures ∙ c.if-is_response.true) refl refl

pub returns : goal.returns
returns c =
    no_message c.args.buffer.items c.in-Err.fault (rw c.as_slice.ensures.value at c.in-Err.ensures.read)
    c.in_default.not-OutOfMemory
