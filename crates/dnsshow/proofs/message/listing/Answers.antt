use Rattle.std.proofs.Common.{ℕ, List, ◌++◌, length, Ok, sym, ap, ◌∙◌}
use Rattle.dns_grammar.specs.Messages.{message_at}
use Rattle.dns_rdata.specs.RDataTable.{rdata_table}
use Rattle.dnsshow.specs.MessageCalls.{after_text}
use Rattle.dnsshow.specs.ShownMessages.{message_shown}
use Rattle.dnsshow.proofs.Listings.{listed}
use Rattle.dnsshow.proofs.message.listing.Goals as goal

pub returns : goal.returns
returns c =
    let message = c.in_ok-message.message in
    listed (length c.args.octets.now) (message_at rdata_table c.args.octets.now) message c.in_ok-message.places
    c.in_ok-message.ensures.read.exact c.in_ok-message.ensures.as_read
    ∙ ap (λ (n : ℕ). Ok (message_shown message ++ after_text n)) (sym c.saturating_sub.ensures)
    ∙ ap (λ (t : List ℕ). Ok t) (sym c.in_ok-format.ensures.ok)
