use Rattle.std.proofs.Common.{◌≡◌, map, take}
use Rattle.std.specs.String.{string_bytes}
use Rattle.sec_anchor.specs.Entries.{entry_data}
use Rattle.dnsshow.specs.AnchorCalls.{entry_text}
use Rattle.dnsshow.proofs.anchors.entry_texts.Given as goal

abbrev pub invariant-entries : goal.invariant-entries
invariant-entries l = map string_bytes l.texts.items ≡ map entry_text (map entry_data (take l.entry-index l.entries))
