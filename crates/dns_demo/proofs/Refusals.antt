-- Calls that refuse nothing.
use Rattle.std.proofs.Common.{◌≡◌, Result, Ok, Err, IsOk}

-- where there is an answer, there is no cause
pub refuses_nothing : {X E : Type 0} (given : Result X E) (cause : E) → IsOk given → given ≡ Err cause → ⊥
refuses_nothing (Ok x) cause is refused = absurd cc
refuses_nothing (Err other) cause is refused = absurd cc
