-- The anchor text of the demo is read.
use Rattle.std.proofs.Common.{◌≡◌, true, ℕ, List, [], refl, ◌∙◌, ap, Result, Ok, Err, is_ok, IsOk}
use Rattle.std.specs.Result.{result_unwrap_or}
use Rattle.base64.specs.Decode.{groups_bytes, groups_error, scan_steps}
use Rattle.base64.specs.Rfc4648.{encode_symbols}
use Rattle.dns_lexer.specs.Tokens.{items_behind, word_len_behind}
use Rattle.dns_names.specs.NameText.{completed_name}
use Rattle.sec_anchor.specs.Entries.{EntryData, entries_of}
use Rattle.sec_anchor.specs.declared.parse_error.ParseError.{ParseError}
use Rattle.dns_demo.specs.Demo.{anchor_text, demo_entries}
use Rattle.dns_demo.specs.Laws.{AnchorIsRead}

is_read : is_ok (entries_of anchor_text) ≡ true
unfolding anchor_text word_len_behind items_behind completed_name groups_error scan_steps encode_symbols groups_bytes
is_read = refl

unwrapped : (read : Result (List EntryData) ParseError) → is_ok read ≡ true → read ≡ Ok (result_unwrap_or read [])
unwrapped (Ok entries) is = refl
unwrapped (Err cause) is = absurd cc

pub anchor_is_read : AnchorIsRead
unfolding demo_entries
anchor_is_read = unwrapped (entries_of anchor_text) is_read

pub can_be_read : (text : List ℕ) → text ≡ anchor_text → IsOk (entries_of text)
can_be_read text is = ap (λ (t : List ℕ). is_ok (entries_of t)) is ∙ is_read
