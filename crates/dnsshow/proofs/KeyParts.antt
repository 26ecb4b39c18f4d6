-- The parts of a key of RSA, from each of them.
use Rattle.std.proofs.Common.{◌≡◌, ℕ, List, Option, Some, None}
use Rattle.std.specs.Option.{option_map}

pub both_parts : (found : Option (List ℕ × List ℕ)) (e n : List ℕ) → option_map (λ parts. parts.0) found ≡ Some e
    → option_map (λ parts. parts.1) found ≡ Some n → found ≡ Some (e, n)
both_parts None e n h k = absurd (cc)
both_parts (Some parts) e n h k = let first : parts.0 ≡ e = cc in let second : parts.1 ≡ n = cc in λ i. Some (first i, second i)
