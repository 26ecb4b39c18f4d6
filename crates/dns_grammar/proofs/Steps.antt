-- A test that a reading passed.
use Rattle.std.proofs.Common.{◌≡◌, Bool, true, false, cond, Result, Ok, Err, refl}
use Rattle.dns_wire.specs.declared.error.DecodeError.{DecodeError}

-- a test whose fault did not come
pub chosen : {A : Type 0} (b : Bool) (d : DecodeError) (x : Result A DecodeError) (y : A) → cond b (Err d) x ≡ Ok y
    → (b ≡ false) × (x ≡ Ok y)
chosen true d x y e = absurd cc
chosen false d x y e = (refl, e)
