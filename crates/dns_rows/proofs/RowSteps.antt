-- Rows, line by line.
use Rattle.std.proofs.Common.{◌≡◌, ℕ, ◌+◌, ◌<◌, List, [], ◌∷◌, ◌++◌, length, refl, sym, ap, ◌∙◌, append_assoc, arith}
use Rattle.std.specs.List.{after_first, position_or_len, flat_map}
use Rattle.std.proofs.lemmas.List.{nil_from_length, append-nil, length-drop}
use Rattle.dns_text.specs.Words.{is_line_feed, lines, without_return}
use Rattle.dns_rows.specs.Rows.{row_text, rows_text}

-- The rows of the whole are those so far, and those of the lines that are left.
abbrev pub HasRows : (List (List ℕ) → List ℕ) → List ℕ → List ℕ → List ℕ → Type 0
HasRows answer octets rest text = rows_text answer octets ≡ text ++ rows_text answer rest

pub rows_none : (answer : List (List ℕ) → List ℕ) (octets text : List ℕ) → text ≡ [] → HasRows answer octets octets text
rows_none answer octets text is = ap (λ (t : List ℕ). t ++ rows_text answer octets) (sym is)

pub rows_one : (answer : List (List ℕ) → List ℕ) (octets rest front line after text new : List ℕ)
    → lines rest ≡ front ∷ lines after → line ≡ without_return front → new ≡ text ++ row_text answer line
    → HasRows answer octets rest text → HasRows answer octets after new
unfolding rows_text
rows_one answer octets rest front line after text new first trimmed is so_far =
    let row : List ℕ → List ℕ = λ l. row_text answer (without_return l) in
    let rows : List (List ℕ) → List ℕ = flat_map row in
    so_far ∙ ap (λ (l : List (List ℕ)). text ++ rows l) first
    ∙ sym (append_assoc text (row front) (rows (lines after)))
    ∙ ap (λ (t : List ℕ). (text ++ row_text answer t) ++ rows (lines after)) (sym trimmed)
    ∙ ap (λ (t : List ℕ). t ++ rows (lines after)) (sym is)

pub rows_all : (answer : List (List ℕ) → List ℕ) (octets rest text : List ℕ) → length rest ≡ 0
    → HasRows answer octets rest text → text ≡ rows_text answer octets
unfolding rows_text
rows_all answer octets rest text none so_far =
    let row : List ℕ → List ℕ = λ l. row_text answer (without_return l) in
    sym (so_far ∙ ap (λ (r : List ℕ). text ++ flat_map row (lines r)) (nil_from_length rest none) ∙ append-nil text)

-- what stands behind a line is shorter
pub shorter : (rest after : List ℕ) → 0 < length rest → after ≡ after_first is_line_feed rest
    → length after < length rest
shorter rest after some is =
    omega (arith, some, ap (λ (l : List ℕ). length l) is ∙ length-drop (position_or_len is_line_feed rest + 1) rest)
