use Rattle.std.proofs.Common.{◌≡◌, ◌++◌, take}
use Rattle.std.specs.List.{flat_map}
use Rattle.dns_names.specs.NameText.{octet_text}
use Rattle.dns_c.proofs.text_buf.TextBuf.add_label.Given as goal

abbrev pub invariant-loop-octet : goal.invariant-loop-octet
invariant-loop-octet l = l.self ≡ l.initial.self ++ flat_map octet_text (take l.octet-index l.label)
