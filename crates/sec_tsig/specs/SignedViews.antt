-- What contracts see of a message that ends in a TSIG.
use Rattle.dns_message.specs.Views.{header_view, tsig_view}
use Rattle.sec_tsig.specs.declared.signed_view.SignedView.{SignedView}
use Rattle.sec_tsig.specs.Verdict.{SignedParts}

abbrev pub signed_view : SignedView → SignedParts
signed_view view = record { header = header_view view.header; signature = tsig_view view.tsig }
