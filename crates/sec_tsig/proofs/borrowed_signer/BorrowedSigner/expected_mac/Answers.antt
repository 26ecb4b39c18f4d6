use Rattle.std.proofs.Common.{refl, ◌∙◌}
use Rattle.std.specs.Option.{option_copied}
use Rattle.sec_digest.specs.Hmac.{hmac}
use Rattle.sec_tsig.specs.Tsig.{mac_input}
use Rattle.sec_tsig.proofs.borrowed_signer.BorrowedSigner.expected_mac.Goals as goal

pub returns : goal.returns
returns c =
    let signer = c.args.self.now in
    let variables = c.variables_of-variables.ensures in
    c.mac_of.ensures _ refl
    ∙ (λ i. hmac signer.algorithm signer.key (mac_input (option_copied c.args.previous) c.args.first (c.of.ensures i)
    (variables.owner i) (variables.value i)))
