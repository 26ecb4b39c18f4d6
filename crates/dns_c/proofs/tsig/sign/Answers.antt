use Rattle.std.proofs.Common.{◌≡◌, ◌∙◌, ℕ, ◌≤◌, true, List, length, ap, arith}
use Rattle.sec_tsig.specs.Verdict.{TsigChain, first_chain}
use Rattle.dns_c.specs.Transactions.{chain_for}
use Rattle.dns_c.proofs.ChainsKept.{signed_told}
use Rattle.dns_c.proofs.tsig.sign.Goals as goal

pub returns-else-out-length : goal.returns-else-out-length
returns-else-out-length c =
    let signer = c.args.signer.now in
    let time = c.args.time in
    let request = c.args.request.now in
    let signs = c.in-Ok.ensures in
    let mac : c.as_slice.result.now ≡ (first_chain signer time request).mac = c.as_slice.ensures.octets ∙ signs.4 in
    let kept : c.behind.result ≡ chain_for (first_chain signer time request) = c.behind.ensures signer
    ∙ ap (λ (x : List ℕ). let chain : TsigChain = record {
      signer = signer;
      request_time = time;
      mac = x;
      time = 0;
      first = true;
    } in chain_for chain) mac in
    let fits : c.in-Ok.length ≤ length c.args.out.now = omega (arith, c.if-out-length.false) in
    (λ i. (c.number-in-Ok.ensures i, c.sign_request_to.new.room, c.in-Ok.length, c.behind.result))
    ∙ signed_told signer time request c.args.out.now c.sign_request_to.new.room c.in-Ok.length c.in-Ok.mac
    c.args.out_len.now c.args.chain.now c.behind.result signs fits kept
