use Rattle.std.proofs.Common.{subst, sym}
use Rattle.std.specs.Option.{option_copied}
use Rattle.dns_wire.specs.Reading.{GivesUnless}
use Rattle.sec_tsig.specs.declared.verify_error.VerifyError.TheVariants as causes
use Rattle.sec_tsig.specs.Received.{checked_byte}
use Rattle.sec_tsig.specs.Views.{checked_view}
use Rattle.sec_tsig.proofs.Judged.{parts_found}
use Rattle.sec_tsig.proofs.signer.TSigner.verify_message_byte.Goals as goal

pub returns-in-Ok : goal.returns-in-Ok
returns-in-Ok c =
    let m = c.args.message.now in
    subst (GivesUnless causes.OutOfMemory checked_view c.checked_byte.result)
    (sym (parts_found (checked_byte c.args.self.now (option_copied c.args.previous_hash) c.args.first_message m) m _ _
    c.in-Ok.ensures.exact))
    c.checked_byte.ensures
