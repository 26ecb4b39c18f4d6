-- How many octets come before the data of the records that are signed.
use Rattle.std.proofs.Common.{◌≡◌, ℕ, ◌+◌, List, length, arith, length-append}
use Rattle.dns_names.specs.Names.{wire}
use Rattle.dns_names.specs.NameLaws.{length-wire-low}
use Rattle.dns_grammar.specs.Messages.{ResourceRecord}
use Rattle.sec_sigdata.specs.declared.sig_input.SigInput.{SigInput}
use Rattle.sec_sign.specs.Signed.{header_octets, record_octets}

pub header_length : (input : SigInput) → length (header_octets input) ≡ 18 + length (wire input.signer_name)
unfolding header_octets
header_length input = simp length-append (omega (arith, length-wire-low input.signer_name))

pub record_length : (head : ResourceRecord) (rdata : List ℕ)
    → length (record_octets head rdata) ≡ length (wire head.name) + 10 + length rdata
unfolding record_octets
record_length head rdata = simp length-append (omega arith)
