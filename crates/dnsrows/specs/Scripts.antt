-- The calls on scripts of `dnscheck check`.
use Rattle.std.specs.Prelude.{ℕ, nat_eq, if◌then◌else◌, List, ◌∷◌, ◌++◌, map, codes, Result, Ok}
use Rattle.std.specs.Fmt.{decimal}
use Rattle.std.specs.List.{flat_map}
use Rattle.std.specs.Option.{ok_or}
use Rattle.std.specs.Str.{bytes_eq}
use Rattle.dns_io.specs.Status.{status_number}
use Rattle.dns_text.specs.Words.{line_feed, lines, one_word, space}
use Rattle.dns_wire.specs.Reading.{◌>>=◌}
use Rattle.check_script.specs.Session.{session, session_status}
use Rattle.dns_rows.specs.declared.refusal.Refusal.{Refusal}
use Rattle.dns_rows.specs.declared.refusal.Refusal.TheVariants.{NoCall}
use Rattle.dns_rows.specs.CallTexts.{separated}
use Rattle.dns_rows.specs.CallWords.{octets_in}
use Rattle.dnsrows.specs.Covering.{covering_calls}
use Rattle.dnsrows.specs.Scheme.{keyed_hash}

-- ---- scripts in one line

abbrev pub vertical_bar : ℕ
vertical_bar = 124

-- a vertical bar ends a line
abbrev pub line_end : ℕ → ℕ
line_end octet = if nat_eq octet vertical_bar then line_feed else octet

-- the script of these words, each after a space
abbrev pub script_octets : List (List ℕ) → List ℕ
script_octets words = flat_map (λ word. space ∷ map line_end word) words

-- ---- sessions in one line

-- the number of the status that a script comes to, and the lines of its session's text, with ` | ` between each two
abbrev pub session_line : List ℕ → List ℕ
session_line octets =
    decimal (status_number (session_status keyed_hash octets)) ++ codes " "
    ++ separated (codes " | ") (lines (session keyed_hash octets))

-- ---- calls

-- `check TEXT`
abbrev pub check_answer : List (List ℕ) → Result (List ℕ) Refusal
check_answer others = Ok (session_line (script_octets others))

-- `script HEX`
abbrev pub script_answer : List (List ℕ) → Result (List ℕ) Refusal
script_answer others = do
  word ← ok_or (one_word others) NoCall
  octets ← octets_in word
  Ok (session_line octets)

-- what the call of this word answers
abbrev pub script_calls : List ℕ → List (List ℕ) → Result (List ℕ) Refusal
script_calls word others =
    if bytes_eq word (codes "check") then check_answer others
    else if bytes_eq word (codes "script") then script_answer others
    else covering_calls word others
