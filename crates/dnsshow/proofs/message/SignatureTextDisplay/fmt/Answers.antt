use Rattle.std.proofs.Common.{ℕ, List, subst}
use Rattle.std.specs.Fmt.{decimal, HasWritten}
use Rattle.dns_names.specs.NameText.{name_text}
use Rattle.dns_types.specs.Codes.{type_text, class_text}
use Rattle.dns_grammar.specs.RecordData.{tsig_type}
use Rattle.sec_sigdata.specs.TsigRecords.{tsig_fields, tsig_text}
use Rattle.dnsshow.specs.ShownMessages.{signature_shown}
use Rattle.dnsshow.proofs.Listings.{five}
use Rattle.dnsshow.proofs.message.SignatureTextDisplay.fmt.Goals as goal

pub returns-clause-writes : goal.returns-clause-writes
unfolding signature_shown
returns-clause-writes g c plain ok =
    let rr = c.args.self.now.0.now in
    subst (λ (t : List ℕ). HasWritten g.W.Write.write_str_gives c.args.f.now t c.write.new.self)
    (five (name_text rr.name) (decimal rr.ttl) (class_text rr.dns_class) (type_text tsig_type)
    (tsig_text (tsig_fields rr.rdata)))
    (c.write.ensures.writes plain ok)
