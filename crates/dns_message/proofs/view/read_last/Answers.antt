use Rattle.std.proofs.Common.{◌≡◌, ◌+◌, ℕ, Option, Some, Result, Ok, refl, sym, ap, ◌∙◌, arith}
use Rattle.dns_wire.specs.declared.error.DecodeError.{DecodeError}
use Rattle.dns_grammar.specs.Messages.{Signature}
use Rattle.std.proofs.lemmas.Result.{err_from_is_err_and}
use Rattle.dns_wire.specs.Reading.{octets, place}
use Rattle.sec_sigdata.specs.TsigRecords.{borrowed_data}
use Rattle.dns_message.specs.Views.{head_view}
use Rattle.dns_message.proofs.LastSteps.{last_short, last_fails, last_signed, end_behind, same_type}
use Rattle.dns_message.proofs.view.read_last.Goals as goal

pub returns-in_err-end-clause-exact : goal.returns-in_err-end-clause-exact
returns-in_err-end-clause-exact c =
    let p = err_from_is_err_and c.from_residual-in_err-end.result c.from_residual-in_err-end.ensures.1 in
    let head = c.in_ok-head.ensures.exact in
    let is = same_type _ _ _ c.if-ne.false c.ne.ensures in
    let end = rw head.1 at c.in_err-end.ensures in
    rw (p.1, p.2) (
      last_short (octets c.args.decoder.now) (place c.args.decoder.now) (head_view c.in_ok-head.head)
          (place c.read_with.new.decoder) _ head.0 is (sym end),
      refl,
    )

pub returns-in-Ok-clause-exact : goal.returns-in-Ok-clause-exact
returns-in-Ok-clause-exact c =
    let head = c.in_ok-head.ensures.exact in
    let is = same_type _ _ _ c.if-ne.false c.ne.ensures in
    let end = rw head.1 at c.in_ok-end.ensures in
    let row = rw head.1 at c.in-Ok.ensures.exact in
    let behind : c.in_ok-end.end ≡ place c.read_with.new.decoder + c.in_ok-head.head.length =
    end_behind (octets c.args.decoder.now) (place c.read_with.new.decoder) c.in_ok-head.head.length c.in_ok-end.end
    (sym end) in (
      rw c.set_index.ensures.place
          (last_signed (octets c.args.decoder.now) (place c.args.decoder.now) (head_view c.in_ok-head.head)
          (place c.read_with.new.decoder) c.in_ok-end.end
          (borrowed_data c.in-Ok.tsig) head.0 is (sym end) row
          ∙ ap (λ (x : Signature). let ok : Result (Option Signature × ℕ) DecodeError = Ok (Some x, c.in_ok-end.end) in ok)
          (sym c.of.ensures.value)),
      c.set_index.ensures.octets ∙ head.1,
      omega (arith, behind, head.2, c.set_index.ensures.place),
    )

pub returns-in-Err-clause-exact : goal.returns-in-Err-clause-exact
returns-in-Err-clause-exact c =
    let head = c.in_ok-head.ensures.exact in
    let is = same_type _ _ _ c.if-ne.false c.ne.ensures in
    let end = rw head.1 at c.in_ok-end.ensures in
    let row = rw head.1 at c.in-Err.ensures.exact in (
      last_fails (octets c.args.decoder.now) (place c.args.decoder.now) (head_view c.in_ok-head.head)
          (place c.read_with.new.decoder) c.in_ok-end.end _ head.0 is (sym end) row,
      refl,
    )
