-- A script, line by line.
use Rattle.std.proofs.Common.{◌≡◌, ◌⊎◌, inl, inr, ℕ, ◌+◌, ◌<◌, List, ◌∷◌, length, Result, Ok, Err, sym, ap, ◌∙◌, add-one, arith}
use Rattle.std.specs.List.{after_first, position_or_len}
use Rattle.std.proofs.lemmas.List.{nil_from_length, length-drop}
use Rattle.dns_text.specs.Words.{is_line_feed, lines, without_return}
use Rattle.dns_wire.specs.Reading.{◌>>=◌}
use Rattle.dns_script.specs.declared.error.LineError.{LineError}
use Rattle.dns_script.specs.declared.error.LineError.TheVariants as line_errors
use Rattle.dns_script.specs.declared.error.ScriptError.{ScriptError}
use Rattle.dns_script.specs.declared.error.ScriptError.TheVariants as errors
use Rattle.dns_script.specs.LineErrors.{at_line, numbered}
use Rattle.dns_script.specs.Scripts.{ScriptKind, add_line, add_lines, finished, script_of}

-- what stands behind a line is shorter
pub shorter : (rest after : List ℕ) → 0 < length rest → after ≡ after_first is_line_feed rest
    → length after < length rest
shorter rest after some is =
    omega (arith, some, ap (λ (l : List ℕ). length l) is ∙ length-drop (position_or_len is_line_feed rest + 1) rest)

module _ {Said Script : Type 0} (kind : ScriptKind Said Script) where
  module _ (number : ℕ) (said : Said) (rest front line after : List ℕ) (first : lines rest ≡ front ∷ lines after)
      (trimmed : line ≡ without_return front) where
    one : add_lines kind number said (lines rest)
        ≡ (at_line number (add_line kind said line) >>= λ next. add_lines kind (number + 1) next (lines after))
    unfolding add_lines
    one = ap (add_lines kind number said) first
        ∙ ap (λ (l : List ℕ). at_line number (add_line kind said l)
        >>= λ next. add_lines kind (number + 1) next (lines after)) (sym trimmed)

    -- a line that adds to what was said
    pub goes_on : (next : Said) → add_line kind said line ≡ Ok next
        → add_lines kind number said (lines rest) ≡ add_lines kind (number + 1) next (lines after)
    goes_on next is =
        one ∙ ap (λ added. at_line number added >>= λ next. add_lines kind (number + 1) next (lines after)) is

    -- a line that does not
    fails : (error : LineError) → add_line kind said line ≡ Err error
        → add_lines kind number said (lines rest) ≡ Err (numbered number error)
    fails error is =
        one ∙ ap (λ added. at_line number added >>= λ next. add_lines kind (number + 1) next (lines after)) is

    pub one_more : length (lines rest) ≡ length (lines after) + 1
    one_more = ap (λ (l : List (List ℕ)). length l) first ∙ sym (add-one (length (lines after)))

  module _ (octets : List ℕ) (number : ℕ) (said : Said) (rest : List ℕ)
      (left : add_lines kind number said (lines rest) ≡ add_lines kind 1 kind.nothing_said (lines octets)) where
    from_here : script_of kind octets
        ≡ (add_lines kind number said (lines rest) >>= finished kind (length (lines octets) + 1))
    unfolding script_of
    from_here =
        ap (λ (found : Result Said ScriptError). found >>= finished kind (length (lines octets) + 1)) (sym left)

    -- the first line that does not add to what was said decides
    pub stops : (front line after : List ℕ) (error : LineError) → lines rest ≡ front ∷ lines after
        → line ≡ without_return front → (error ≡ line_errors.OutOfMemory) ⊎ (add_line kind said line ≡ Err error)
        → (numbered number error ≡ errors.OutOfMemory) ⊎ (script_of kind octets ≡ Err (numbered number error))
    stops front line after error first trimmed (inl memory) = inl (ap (numbered number) memory)
    stops front line after error first trimmed (inr is) =
        inr (from_here
        ∙ ap (λ (found : Result Said ScriptError). found >>= finished kind (length (lines octets) + 1))
        (fails number said rest front line after first trimmed error is))

    -- behind the last line, what was said is the script
    pub ends : length rest ≡ 0 → number + length (lines rest) ≡ length (lines octets) + 1
        → script_of kind octets ≡ finished kind number said
    unfolding add_lines
    ends none all =
        let behind : length (lines rest) ≡ 0 = ap (λ (l : List ℕ). length (lines l)) (nil_from_length rest none) in
        let here : length (lines octets) + 1 ≡ number = omega (arith, all, behind) in
        from_here
        ∙ ap (λ (l : List ℕ). add_lines kind number said (lines l) >>= finished kind (length (lines octets) + 1))
        (nil_from_length rest none)
        ∙ ap (λ (n : ℕ). finished kind n said) here
