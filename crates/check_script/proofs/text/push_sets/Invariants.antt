use Rattle.std.proofs.Common.{◌≡◌, ◌++◌, take}
use Rattle.std.specs.List.{flat_map}
use Rattle.std.specs.String.{string_bytes}
use Rattle.check_script.specs.Text.{set_text}
use Rattle.check_script.proofs.text.push_sets.Given as goal

abbrev pub invariant-sets : goal.invariant-sets
invariant-sets l = string_bytes l.text ≡ string_bytes l.initial.text ++ flat_map set_text (take l.set-index l.sets)
