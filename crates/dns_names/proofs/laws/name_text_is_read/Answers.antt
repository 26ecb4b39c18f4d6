use Rattle.dns_names.proofs.TextLaws.{name_read, name_text_spells}
use Rattle.dns_names.specs.NameText.{name_text}
use Rattle.dns_names.proofs.laws.name_text_is_read.Goals as goal

pub returns : goal.returns
returns c n name = name_read (name_text n) n (name_text_spells n name) name
