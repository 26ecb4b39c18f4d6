-- Lines of calls, and what they are answered.
use Rattle.std.specs.Prelude.{◌≡◌, ℕ, List, [], ◌∷◌, ◌++◌, codes, if◌then◌else◌}
use Rattle.std.specs.List.{flat_map}
use Rattle.dns_io.specs.declared.status.Status.TheVariants.{Accepted}
use Rattle.dns_script.specs.Sessions.{Session, only}
use Rattle.dns_text.specs.HexText.{lower_hex}
use Rattle.dns_text.specs.Words.{is_skipped, lines, without_return, words}

-- octets in hexadecimal, and `-` for none
abbrev pub hex_word : List ℕ → List ℕ
hex_word [] = codes "-"
hex_word (octet ∷ octets) = lower_hex (octet ∷ octets)

-- what a line is answered, and a line feed: nothing else where the line is blank or a comment
abbrev pub row_text : (List (List ℕ) → List ℕ) → List ℕ → List ℕ
row_text answer line = (if is_skipped line then [] else answer (words line)) ++ codes "\n"

-- What the lines of octets are answered, a row for each. One carriage return at a line's end is dropped.
unfoldable pub rows_text : (List (List ℕ) → List ℕ) → List ℕ → List ℕ
rows_text answer octets = flat_map (λ line. row_text answer (without_return line)) (lines octets)

-- what comes of octets: their rows alone, and everything is accepted
abbrev pub rows_session : (List (List ℕ) → List ℕ) → Session (List ℕ)
rows_session answer = only (rows_text answer) (λ _. Accepted)
