use Rattle.std.proofs.Common.{◌≡◌, ◌≢◌, ◌+◌, length, ◌∙◌, arith}
use Rattle.sec_tsig.specs.Tsig.{additional_count, tsig_record}
use Rattle.sec_tsig.proofs.Joins.{measured_joined}
use Rattle.sec_tsig.proofs.joining.joined_len.Goals as goal

pub returns-clause-exact : goal.returns-clause-exact
returns-clause-exact c =
    let octets = c.args.octets.now in
    let n = c.in_ok-put_len.field-0 in
    let other : additional_count octets ≢ 65535 = λ e. c.if-number_at-eq65535.false (c.number_at.ensures ∙ e) in
    let sum : c.saturating_add-len.result ≡ length octets + n =
    omega (arith, c.saturating_add-len.ensures, c.if-len-gt-MESSAGE_LIMIT.false) in
    let found = measured_joined octets (tsig_record c.args.rr.now) n c.requires other c.in_ok-put_len.ensures
    (omega (arith, sum, c.if-len-gt-MESSAGE_LIMIT.false)) in
    (found.0, found.1, found.2, sum ∙ found.3)
