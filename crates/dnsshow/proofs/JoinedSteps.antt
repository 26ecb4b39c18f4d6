-- Words with a space between each two.
use Rattle.std.proofs.Common.{◌≡◌, ℕ, List, [], ◌∷◌, ◌++◌, append_assoc}
use Rattle.sec_anchor.specs.Entries.{spaced}

-- one word more
pub spaced_more : (text word : List ℕ) (rest : List (List ℕ))
    → ((text ++ 32 ∷ []) ++ word) ++ spaced rest ≡ text ++ spaced (word ∷ rest)
spaced_more text word rest = simp append_assoc
