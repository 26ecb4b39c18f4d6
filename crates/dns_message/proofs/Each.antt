-- Values read one behind the other, as a loop reads them.
use Rattle.std.proofs.Common.{◌≡◌, ℕ, suc, ◌+◌, ◌-◌, ◌<◌, ◌≤◌, List, ◌∷◌, Result, Ok, Err, refl, arith}
use Rattle.dns_wire.specs.declared.error.DecodeError.{DecodeError}
use Rattle.dns_wire.specs.Reading.{◌>>=◌, each_at}
use Rattle.dns_names.specs.Skipping.{without_value}

-- ---- places alone

skipped_first : {A : Type 0} (x : A) (rest : Result (List A × ℕ) DecodeError)
    → without_value (rest >>= λ xs. Ok (x ∷ xs.0, xs.1)) ≡ without_value rest
skipped_first x (Ok xs) = refl
skipped_first x (Err e) = refl

skipped_split : {A : Type 0} (read : ℕ → Result (A × ℕ) DecodeError) (n : ℕ) (first : Result (A × ℕ) DecodeError)
    → without_value (first >>= λ x. each_at read n x.1 >>= λ xs. Ok (x.0 ∷ xs.0, xs.1))
    ≡ (without_value first >>= λ x. without_value (each_at read n x.1))
skipped_split read n (Ok x) = skipped_first x.0 (each_at read n x.1)
skipped_split read n (Err e) = refl

pub skipped_more : {A : Type 0} (read : ℕ → Result (A × ℕ) DecodeError) (n i p : ℕ) → i < n
    → without_value (each_at read (n - i) p) ≡ (without_value (read p)
    >>= λ x. without_value (each_at read (n - (i + 1)) x.1))
unfolding each_at
skipped_more read n i p lt = let more : n - i ≡ suc (n - (i + 1)) = omega arith in rw more
    (skipped_split read (n - (i + 1)) (read p))

pub skipped_none : {A : Type 0} (read : ℕ → Result (A × ℕ) DecodeError) (n i p : ℕ) → n ≤ i
    → without_value (each_at read (n - i) p) ≡ Ok (tt, p)
unfolding each_at
skipped_none read n i p le = let none : n - i ≡ 0 = omega arith in rw none refl
