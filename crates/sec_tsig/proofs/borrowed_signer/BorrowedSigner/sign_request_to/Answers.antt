use Rattle.std.proofs.Common.{rules, ◌≡◌, ◌≢◌, refl, ◌∙◌, ◌+◌, ◌≤◌, ◌<◌, ◌^◌, true, length, arith}
use Rattle.sec_tsig.specs.Requests.{is_request, request_record_len}
use Rattle.sec_tsig.specs.Tsig.{additional_count, join}
use Rattle.sec_tsig.proofs.Joins.{length-join}
use Rattle.sec_tsig.proofs.RequestRecords.{signed, too_long}
use Rattle.sec_tsig.proofs.Signable.{record_is, record_size, request_octets}
use Rattle.sec_tsig.proofs.borrowed_signer.BorrowedSigner.sign_request_to.Goals as goal

pub returns-then-length-gt-MESSAGE_LIMIT : goal.returns-then-length-gt-MESSAGE_LIMIT
returns-then-length-gt-MESSAGE_LIMIT c =
    let signer = c.args.self.now in
    let request = c.args.request.now in
    let below : c.args.time < 2 ^ 48 = omega (arith, c.if-time-ge-TIME_LIMIT.false) in
    let is : is_request request ≡ true = search rules in
    let header : 12 ≤ length request = search rules in
    let other : additional_count request ≢ 65535 = λ e. c.if-number_at-eq65535.false (c.number_at.ensures ∙ e) in
    let much : 65535 < length request + request_record_len signer =
    omega (arith, c.request_record_len.ensures.value, c.if-length-gt-MESSAGE_LIMIT.true) in
    (too_long c.length_of_hmac.ensures signer c.args.time request below is header other much, refl)

pub returns : goal.returns
returns c =
    let signer = c.args.self.now in
    let request = c.args.request.now in
    let has = c.length_of_hmac.ensures in
    let below : c.args.time < 2 ^ 48 = omega (arith, c.if-time-ge-TIME_LIMIT.false) in
    let is : is_request request ≡ true = search rules in
    let header : 12 ≤ length request = search rules in
    let other : additional_count request ≢ 65535 = λ e. c.if-number_at-eq65535.false (c.number_at.ensures ∙ e) in
    let len = c.request_record_len.ensures in
    let octets = request_octets signer c.args.time request in
    let short : length request + request_record_len signer ≤ 65535 =
    omega (arith, len.value, c.if-length-gt-MESSAGE_LIMIT.false) in (
      join request octets,
      signed has signer c.args.time request below is header other short,
      omega (arith, length-join request octets header, record_size has signer c.args.time request below, len.value),
      c.sign_into-mac.ensures.signed octets (record_is has signer c.args.time request below),
      c.sign_into-mac.ensures.mac,
    )
