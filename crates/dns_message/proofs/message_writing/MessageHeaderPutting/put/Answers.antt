use Rattle.std.proofs.Common.{◌≡◌, ◌⊎◌, inl, inr, true, false, sym, subst, arith, ◌∙◌, map}
use Rattle.std.specs.Prelude.{is_some}
use Rattle.std.proofs.lemmas.List.{length-map}
use Rattle.dns_wire.specs.Sinks.{Puts}
use Rattle.dns_message.specs.Parts.{message_parts, record_view}
use Rattle.dns_message.specs.Views.{query_view}
use Rattle.dns_message.proofs.MessageWritingSteps.{count_is, last_count_is, header_is}
use Rattle.dns_message.proofs.message_writing.MessageHeaderPutting.put.Goals as goal
use Rattle.dns_message.proofs.message_writing.MessageHeaderPutting.put.Goals.{then-is_some, else-is_some}

pub returns : goal.returns
returns g c =
    let message = c.args.self.now.0.now in
    let signatures : (is_some message.signature ≡ true) × (c.if-is_some.signatures ≡ 1)
    ⊎ (is_some message.signature ≡ false) × (c.if-is_some.signatures ≡ 0) =
    elim c.if-is_some.branch [
      | then-is_some w ↦ inl (sym c.is_some.ensures ∙ w.if-is_some.true, w.signatures-is)
      | else-is_some w ↦ inr (sym c.is_some.ensures ∙ w.if-is_some.false, w.signatures-is)
    ] in
    let queries = count_is (map query_view message.queries.items) c.len.result c.in_ok-questions.questions
    (omega (arith, c.len.ensures, message.queries.ok, length-map message.queries.items query_view))
    c.in_ok-questions.ensures in
    let answers = count_is (map record_view message.answers.items) c.len-2.result c.in_ok-answers.answers
    (omega (arith, c.len-2.ensures, message.answers.ok, length-map message.answers.items record_view))
    c.in_ok-answers.ensures in
    let authorities = count_is (map record_view message.authorities.items) c.len-3.result
    c.in_ok-authorities.authorities
    (omega (arith, c.len-3.ensures, message.authorities.ok, length-map message.authorities.items record_view))
    c.in_ok-authorities.ensures in
    let additionals = last_count_is message.additionals.items message.signature c.if-is_some.signatures
    c.saturating_add.result c.in_ok-additionals.additionals signatures
    (omega (arith, c.saturating_add.ensures, c.len-4.ensures, message.additionals.ok))
    c.in_ok-additionals.ensures in
    subst (λ w. Puts g.S.OctetSink.has_taken c.put_fields.result c.args.sink.now c.put_fields.new.sink w)
    (sym (header_is (message_parts message) _ _ _ _ queries answers authorities additionals)) c.put_fields.ensures
