use Rattle.std.proofs.Common.{ℕ, List, ◌++◌, codes, ap, subst, ◌∙◌}
use Rattle.std.specs.Fmt.{decimal, HasWritten}
use Rattle.dns_names.specs.NameText.{name_text}
use Rattle.dns_types.specs.Codes.{type_text, class_text}
use Rattle.dns_rdata.specs.RData.{rdata_text}
use Rattle.dnsshow.specs.ShownMessages.{record_shown}
use Rattle.dnsshow.proofs.Listings.{five}
use Rattle.dnsshow.proofs.message.RecordTextDisplay.fmt.Goals as goal

pub returns-clause-writes : goal.returns-clause-writes
unfolding record_shown
returns-clause-writes g c plain ok =
    let rr = c.args.self.now.0.now in
    subst (λ (t : List ℕ). HasWritten g.W.Write.write_str_gives c.args.f.now t c.write.new.self)
    (five (name_text rr.name) (decimal rr.ttl) (class_text rr.dns_class) (type_text c.record_type-rtype.result)
    (rdata_text rr.rdata)
    ∙ ap (λ (rtype : ℕ). name_text rr.name ++ codes " " ++ decimal rr.ttl ++ codes " " ++ class_text rr.dns_class
    ++ codes " " ++ type_text rtype ++ codes " " ++ rdata_text rr.rdata) c.record_type-rtype.ensures)
    (c.write.ensures.writes plain ok)
