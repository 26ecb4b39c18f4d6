use Rattle.std.proofs.Common.{◌≡◌, ◌++◌}
use Rattle.std.specs.List.{flat_map}
use Rattle.dns_names.specs.NameText.{label_text}
use Rattle.dns_c.proofs.text_buf.TextBuf.of_name.Given as goal

abbrev pub invariant-loop-label : goal.invariant-loop-label
invariant-loop-label l = l.text ++ flat_map label_text l.label-iterator ≡ flat_map label_text l.name
