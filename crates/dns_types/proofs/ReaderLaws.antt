-- A reader that answers what the reading function gives answers what stands, and what stands is answered.
use Rattle.std.proofs.Common.{◌≡◌, ◌⊎◌, ◌↔◌, ℕ, Result, Ok, Err, refl, sym, ap, ◌∙◌, inl, inr}
use Rattle.std.specs.Prelude.{IfOk, IsOkAnd}
use Rattle.dns_wire.specs.declared.decoder.BinDecoder.{BinDecoder}
use Rattle.dns_wire.specs.declared.error.DecodeError.{DecodeError}
use Rattle.dns_wire.specs.declared.error.DecodeError.TheVariants.{OutOfMemory}
use Rattle.dns_wire.specs.Reading.{place, ReadsUnless}
use Rattle.dns_wire.proofs.FieldLaws.{is_ok_same}

-- a value and the place behind it are read exactly where the relation says that they stand
abbrev pub IsRead : {Y : Type 0} → (Y → ℕ → Type 0) → Result (Y × ℕ) DecodeError → Type 0
IsRead {Y} At given = (y : Y) (q : ℕ) → (given ≡ Ok (y, q)) ↔ At y q

-- what is answered stands there
pub found_by : {X Y : Type 0} (At : Y → ℕ → Type 0) (view : X → Y) (result : Result X DecodeError)
    (old new : BinDecoder) (given : Result (Y × ℕ) DecodeError)
    → IsRead At given → ReadsUnless view result old new given → IfOk result (λ x. At (view x) (place new))
found_by At view (Ok x) old new given is_read read = (is_read (view x) (place new)).0 read.0
found_by At view (Err e) old new given is_read read = tt

-- want of memory aside, no fault comes where a value is given
no_fault : {X Y : Type 0} (P : X → Type 0) (result : Result X DecodeError) (e : DecodeError)
    (given : Result (Y × ℕ) DecodeError) (y : Y × ℕ)
    → result ≡ Err e → (e ≡ OutOfMemory) ⊎ (given ≡ Err e) → given ≡ Ok y
    → (result ≡ Err OutOfMemory) ⊎ IsOkAnd result P
no_fault P result e given y is (inl none) ok = inl (is ∙ ap Err none)
no_fault P result e given y is (inr fault) ok = absurd (cc (sym fault ∙ ok))

-- what stands there is answered
pub only_by : {X Y : Type 0} (At : Y → ℕ → Type 0) (view : X → Y) (result : Result X DecodeError)
    (old new : BinDecoder) (given : Result (Y × ℕ) DecodeError)
    → IsRead At given → ReadsUnless view result old new given → (y : Y) (q : ℕ) → At y q
    → (result ≡ Err OutOfMemory) ⊎ IsOkAnd result (λ x. view x ≡ y)
only_by At view (Ok x) old new given is_read read y q stands =
    inr (ap (λ z. z.0) (is_ok_same (view x, place new) (y, q) (sym read.0 ∙ (is_read y q).1 stands)))
only_by At view (Err e) old new given is_read read y q stands =
    no_fault (λ x. view x ≡ y) (Err e) e given (y, q) refl read.0 ((is_read y q).1 stands)
