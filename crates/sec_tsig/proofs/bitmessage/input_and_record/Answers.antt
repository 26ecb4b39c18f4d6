use Rattle.std.proofs.Common.{ℕ, List, Result, Ok, sym, subst, ◌∙◌}
use Rattle.std.specs.Option.{option_copied}
use Rattle.dns_wire.specs.Reading.{Gives}
use Rattle.sec_tsig.specs.declared.verify_error.VerifyError.{VerifyError}
use Rattle.sec_tsig.specs.Received.{class_and_ttl_at}
use Rattle.sec_tsig.specs.SignedViews.{signed_view}
use Rattle.sec_tsig.specs.Tsig.{TsigRecord}
use Rattle.sec_tsig.proofs.Buffers.{class_and_ttl_viewed, given_is_ok, input_viewed}
use Rattle.sec_tsig.proofs.bitmessage.input_and_record.Goals as goal

pub unwrap-dns_class-requires : goal.unwrap-dns_class-requires
unwrap-dns_class-requires c =
    let found = class_and_ttl_viewed c.args.message.now (signed_view c.args.view.now) c.requires.read in
    given_is_ok _ _ found.0 found.1 c.class_and_ttl.ensures

pub returns : goal.returns
returns c =
    let m = c.args.message.now in
    let view = c.args.view.now in
    let read = subst (λ r. Gives (λ y. y) r (class_and_ttl_at m view.tsig.start)) c.unwrap-dns_class.ensures
    c.class_and_ttl.ensures in
    let found = input_viewed (option_copied c.args.previous) c.args.first m (signed_view view) c.unwrap-dns_class.result.0
    c.unwrap-dns_class.result.1 c.requires.read read in
    found ∙ (λ i. let ok : Result (List ℕ × TsigRecord) VerifyError = Ok
    (sym c.in_ok-input.ensures.input i, sym c.in_ok-rr.ensures i) in ok)
