use Rattle.std.proofs.Common.{◌≡◌, ◌∙◌, ◌+◌, ◌≤◌, ℕ, true, [], length, None, ap, arith}
use Rattle.sec_sigdata.specs.TsigRecords.{TsigFields, borrowed_fields}
use Rattle.sec_tsig.specs.Requests.{request_record_len}
use Rattle.sec_tsig.specs.Signers.{request_record, request_tsig, signing_mac, tsig_by}
use Rattle.sec_tsig.specs.Tsig.{made_record, written_record}
use Rattle.sec_tsig.proofs.RequestRecords.{room_filled}
use Rattle.sec_tsig.proofs.Signable.{record_is, record_size, request_octets}
use Rattle.sec_tsig.proofs.borrowed_signer.BorrowedSigner.sign_into.Goals as goal

pub put_signed-requires-clause-fits : goal.put_signed-requires-clause-fits
put_signed-requires-clause-fits c =
    let signer = c.args.self.now in
    let request = c.args.request.now in
    let time = c.args.time in
    let bare : borrowed_fields c.tsig_by-variables.result.tsig ≡ request_tsig signer time request =
    c.tsig_by-variables.ensures.fields ∙ ap (λ (id : ℕ). tsig_by signer time id None []) c.number_at.ensures in
    let mac : c.as_slice.result.now ≡ signing_mac signer None true request (request_tsig signer time request) =
    c.as_slice.ensures.octets ∙ c.signing_mac-mac.ensures
    ∙ ap (λ (tsig : TsigFields). signing_mac signer None true request tsig) bare in
    let owner = c.with_mac.ensures.owner ∙ c.tsig_by-variables.ensures.owner in
    let fields = c.with_mac.ensures.fields ∙ (λ i. record (bare i) { mac = mac i }) in
    let own : made_record c.with_mac.result.key_name.now (borrowed_fields c.with_mac.result.tsig)
    ≡ request_record signer time request = λ i. made_record (owner i) (fields i) in
    let fits : length request + length (request_octets signer time request) ≤ length c.args.buffer.now =
    omega (
      arith,
      record_size c.length_of_hmac.ensures signer time request c.requires.time,
      c.requires.length,
      c.if-signed_len-buffer.true,
    ) in (
      request_octets signer time request,
      ap written_record own ∙ record_is c.length_of_hmac.ensures signer time request c.requires.time,
      fits,
    )

pub returns-then-signed_len-buffer-clause-signed : goal.returns-then-signed_len-buffer-clause-signed
returns-then-signed_len-buffer-clause-signed c octets is =
    let signer = c.args.self.now in
    let request = c.args.request.now in
    let time = c.args.time in
    let bare : borrowed_fields c.tsig_by-variables.result.tsig ≡ request_tsig signer time request =
    c.tsig_by-variables.ensures.fields ∙ ap (λ (id : ℕ). tsig_by signer time id None []) c.number_at.ensures in
    let mac : c.as_slice.result.now ≡ signing_mac signer None true request (request_tsig signer time request) =
    c.as_slice.ensures.octets ∙ c.signing_mac-mac.ensures
    ∙ ap (λ (tsig : TsigFields). signing_mac signer None true request tsig) bare in
    let owner = c.with_mac.ensures.owner ∙ c.tsig_by-variables.ensures.owner in
    let fields = c.with_mac.ensures.fields ∙ (λ i. record (bare i) { mac = mac i }) in
    let own : made_record c.with_mac.result.key_name.now (borrowed_fields c.with_mac.result.tsig)
    ≡ request_record signer time request = λ i. made_record (owner i) (fields i) in
    let fits : length request + request_record_len signer ≤ length c.args.buffer.now =
    omega (arith, c.requires.length, c.if-signed_len-buffer.true) in
    room_filled c.length_of_hmac.ensures signer time request c.args.buffer.now octets c.put_signed.new.buffer c.requires.time
    c.requires.header is fits (c.put_signed.ensures octets (ap written_record own ∙ is))
