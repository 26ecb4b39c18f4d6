use Rattle.std.proofs.Common.{ℕ, List, ap, refl, ◌∙◌}
use Rattle.std.specs.Option.{option_copied}
use Rattle.sec_digest.specs.Hmac.{hmac}
use Rattle.sec_sigdata.specs.TsigRecords.{borrowed_data}
use Rattle.sec_tsig.specs.Tsig.{mac_input}
use Rattle.sec_tsig.proofs.borrowed_signer.BorrowedSigner.signing_mac.Goals as goal

pub returns : goal.returns
returns c =
    let signer = c.args.self.now in
    c.mac_of.ensures c.args.octets.now refl
    ∙ ap (λ (n : List (List ℕ)). hmac signer.algorithm signer.key (mac_input (option_copied c.args.previous) c.args.first
    c.args.octets.now n (borrowed_data c.args.variables.now.tsig))) c.requires.owner
