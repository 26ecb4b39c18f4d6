use Rattle.std.proofs.Common.{◌≡◌, take}
use Rattle.std.specs.Prelude.{map}
use Rattle.sec_codes.specs.KeptKeys.{kept_key}
use Rattle.sec_anchor.proofs.anchors.copied_keys.Given as goal

abbrev pub invariant-loop-key : goal.invariant-loop-key
invariant-loop-key l = map kept_key l.copies.items ≡ map kept_key (take l.key-index l.keys)
