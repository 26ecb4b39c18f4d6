-- What the octets of a script say, line by line.
use Rattle.std.specs.Prelude.{ℕ, ◌+◌, List, [], ◌∷◌, length, Option, if◌then◌else◌, Result, Ok, Err}
use Rattle.std.specs.List.{list_all}
use Rattle.std.specs.Option.{ok_or}
use Rattle.dns_wire.specs.Reading.{◌>>=◌}
use Rattle.dns_text.specs.Words.{is_text, is_skipped, lines, without_return, words, behind_word}
use Rattle.dns_script.specs.declared.error.LineError.{LineError}
use Rattle.dns_script.specs.declared.error.LineError.TheVariants.{Fault}
use Rattle.dns_script.specs.declared.reason.Reason.TheVariants as reasons
use Rattle.dns_script.specs.declared.error.ScriptError.{ScriptError}
use Rattle.dns_script.specs.declared.error.ScriptError.TheVariants as errors
use Rattle.dns_script.specs.LineErrors.{at_line}

-- A kind of script: what its lines say before the first; what a line adds by its first word and the text after it; and
-- what they say together, where nothing is missing.
pub record ScriptKind (Said Script : Type 0) : Type 0 where
  pub nothing_said : Said
  pub add : Said → List ℕ → List ℕ → Result Said LineError
  pub whole : Said → Option Script

-- by the words of a line, and the text after the first
abbrev pub add_words : {Said Script : Type 0} → ScriptKind Said Script → Said → List (List ℕ) → List ℕ
    → Result Said LineError
add_words kind said [] text = Err (Fault reasons.Word)
add_words kind said (word ∷ _) text = kind.add said word text

-- what a line without its line feed adds, or why it is faulty; a line of blanks or a comment adds nothing
abbrev pub add_line : {Said Script : Type 0} → ScriptKind Said Script → Said → List ℕ → Result Said LineError
add_line kind said line =
    if is_skipped line then Ok said
    else if list_all is_text line then add_words kind said (words line) (behind_word line)
    else Err (Fault reasons.Text)

-- what the lines from a number on add, or the first fault; one carriage return at a line's end is dropped
unfoldable pub add_lines : {Said Script : Type 0} → ScriptKind Said Script → ℕ → Said → List (List ℕ)
    → Result Said ScriptError
add_lines kind number said [] = Ok said
add_lines kind number said (line ∷ rest) =
    at_line number (add_line kind said (without_return line)) >>= λ next. add_lines kind (number + 1) next rest

-- the whole script, or the line after the last as one that is missing
abbrev pub finished : {Said Script : Type 0} → ScriptKind Said Script → ℕ → Said → Result Script ScriptError
finished kind number said = ok_or (kind.whole said) (errors.Fault number reasons.End)

-- The script that octets are, or its first faulty line, numbered from 1.
unfoldable pub script_of : {Said Script : Type 0} → ScriptKind Said Script → List ℕ → Result Script ScriptError
script_of kind octets =
    add_lines kind 1 kind.nothing_said (lines octets) >>= finished kind (length (lines octets) + 1)
