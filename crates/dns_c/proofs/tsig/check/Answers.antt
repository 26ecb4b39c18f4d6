use Rattle.std.proofs.Common.{◌≡◌, ◌∙◌, ◌≤◌, false, sym, arith}
use Rattle.sec_tsig.specs.Notices.{step_notice}
use Rattle.sec_tsig.specs.Verdict.{TsigChain}
use Rattle.sec_tsig.specs.Views.{stepped}
use Rattle.dns_c.specs.Transactions.{chain_for}
use Rattle.dns_c.proofs.ChainsKept.{checked_told}
use Rattle.dns_c.proofs.tsig.check.Goals as goal

pub returns-in-Ok : goal.returns-in-Ok
returns-in-Ok c =
    let signer = c.args.signer in
    let chain = c.new-verifier.result in
    let step = c.in-Ok.step in
    let moved : c.behind.result ≡ chain_for (stepped chain step) = c.behind.ensures signer
    ∙ (λ i. let next : TsigChain = record {
      signer = signer;
      request_time = (sym c.new-verifier.ensures i).request_time;
      mac = c.mac.ensures.value i;
      time = c.time.ensures i;
      first = false;
    } in chain_for next) in
    let short : c.args.chain.now.mac_len ≤ 64 = omega (arith, c.if-chain-gt64.false) in
    (λ i. (c.number-in-Ok.ensures i, (c.behind.result, c.of.result)))
    ∙ checked_told signer c.args.chain.now c.behind.result chain (stepped chain step) c.args.message.now (step_notice step)
    c.args.answer.now c.of.result short c.new-verifier.ensures c.in-Ok.ensures.verdict c.in-Ok.ensures.notice moved
    c.of.ensures
