use Rattle.std.proofs.Common.{◌≡◌, List, [], ◌∷◌, ◌++◌, map, None, Result, Ok, sym, ap, ◌∙◌}
use Rattle.std.proofs.lemmas.List.{map-append}
use Rattle.std.proofs.lemmas.Result.{err_from_is_err_and}
use Rattle.dns_wire.specs.declared.error.DecodeError.{DecodeError}
use Rattle.dns_grammar.specs.Messages.{ResourceRecord}
use Rattle.dns_message.specs.OwnedMessages.{Placed}
use Rattle.dns_message.specs.Parts.{record_view, message_parts}
use Rattle.dns_message.proofs.PartSteps.{last_unread, last_other}
use Rattle.dns_message.proofs.message_reading.read_message.Goals as goal

pub returns-in_err-last-clause-exact : goal.returns-in_err-last-clause-exact
returns-in_err-last-clause-exact c =
    let p = err_from_is_err_and c.from_residual-in_err-last.result c.from_residual-in_err-last.ensures.1 in
    rw (p.1, p.2)
    (last_unread c.args.message.now (message_parts c.in_ok-read.read) c.in_ok-read.additionals c.in_ok-read.start
    c.in_err-last.field-0.0 c.in_ok-read.ensures.exact c.if-additionals-eq0.false c.in_err-last.ensures.exact)

pub returns-in_ok-push-in-Other-clause-exact : goal.returns-in_ok-push-in-Other-clause-exact
returns-in_ok-push-in-Other-clause-exact c =
    let read = c.in_ok-read.read in
    let rr = c.in-Other.rr in
    let put : map record_view c.push.new.self.items ≡ map record_view read.additionals.items ++ record_view rr ∷ [] =
    ap (map record_view) c.in_ok-push-in-Other.ensures.items
    ∙ map-append record_view read.additionals.items (rr ∷ []) in
    let last = rw c.in-Other.is at c.in_ok-last.ensures.exact in
    let as_read = rw c.in-Other.is at c.in_ok-last.ensures.as_read in
    last_other c.args.message.now (message_parts read) c.in_ok-read.additionals c.in_ok-read.start (record_view rr)
    c.in_ok-last.end c.in_ok-read.ensures.exact c.if-additionals-eq0.false last as_read.1
    ∙ ap (λ (l : List ResourceRecord). let ok : Result Placed DecodeError = Ok
    (record (message_parts read) { additionals = l }, (None, c.in_ok-last.end)) in ok) (sym put)
