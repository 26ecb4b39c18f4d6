-- Lines that the scripts of several commands have.
use Rattle.std.specs.Prelude.{ℕ, ◌^◌, List, Result, Ok, Err}
use Rattle.sec_anchor.specs.declared.parse_error.ParseError.{ParseError}
use Rattle.sec_anchor.specs.Entries.{EntryData, entries_of}
use Rattle.dns_script.specs.OneWord.{number_word}
use Rattle.dns_script.specs.declared.error.LineError.{LineError}
use Rattle.dns_script.specs.declared.error.LineError.TheVariants.{Fault}
use Rattle.dns_script.specs.declared.reason.Reason.TheVariants as reasons

-- `TEXT`: the entries of an anchor text, which may be none
abbrev pub anchor_entries : Result (List EntryData) ParseError → Result (List EntryData) LineError
anchor_entries (Ok entries) = Ok entries
anchor_entries (Err _) = Err (Fault reasons.Anchor)

abbrev pub anchor_text : List ℕ → Result (List EntryData) LineError
anchor_text text = anchor_entries (entries_of text)

-- `N`: the moment at which signatures are checked
abbrev pub moment_word : List ℕ → Result ℕ LineError
moment_word text = number_word (2 ^ 32) reasons.Moment text
