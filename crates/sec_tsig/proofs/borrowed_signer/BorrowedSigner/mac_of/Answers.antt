use Rattle.std.proofs.Common.{[]}
use Rattle.sec_tsig.proofs.borrowed_signer.BorrowedSigner.mac_of.Goals as goal

pub returns : goal.returns
returns g c octets is =
    let signer = c.args.self.now in
    c.finish.ensures.value signer.algorithm signer.key _
    (c.put_input.ensures octets is (signer.algorithm, signer.key) [] c.hasher-hasher.ensures)
