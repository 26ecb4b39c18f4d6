-- What calls are answered, where it is no value's own text.
use Rattle.std.specs.Prelude.{ℕ, List, [], ◌∷◌, ◌++◌, Bool, if◌then◌else◌, codes, Option}
use Rattle.std.specs.List.{flat_map}
use Rattle.std.specs.Option.{option_map_or}

abbrev pub yes_or_no : Bool → List ℕ
yes_or_no is = if is then codes "yes" else codes "no"

-- the text of what is there
abbrev pub text_or_none : {A : Type 0} → (A → List ℕ) → Option A → List ℕ
text_or_none text found = option_map_or text found (codes "none")

-- a text, and `-` where it is empty
abbrev pub text_or_dash : List ℕ → List ℕ
text_or_dash [] = codes "-"
text_or_dash (first ∷ others) = first ∷ others

-- texts with a separator between each two, and `-` for none
abbrev pub separated : List ℕ → List (List ℕ) → List ℕ
separated separator [] = codes "-"
separated separator (first ∷ others) = first ++ flat_map (λ next. separator ++ next) others
