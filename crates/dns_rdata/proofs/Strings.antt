-- Strings read one behind the other.
use Rattle.std.proofs.Common.{◌≡◌, ℕ, suc, ◌+◌, ◌-◌, ◌<◌, ◌≤◌, List, [], ◌∷◌, ◌++◌, length, Result, Ok, Err, refl, sym}
use Rattle.std.proofs.Common.{ap, ◌∙◌, arith, append_assoc, append-nil}
use Rattle.std.specs.Int.{w8}
use Rattle.dns_wire.specs.declared.error.DecodeError.{DecodeError}
use Rattle.dns_wire.specs.Reading.{◌>>=◌, counted_at}
use Rattle.dns_grammar.specs.Fields.{strings_at}
use Rattle.dns_grammar.proofs.FieldLaws.{strings_end, strings_more}
use Rattle.dns_grammar.proofs.CheckLaws.{strings_enough, counted_on}

-- strings that were read, and those that are still to be read
abbrev pub strings_after : List (List ℕ) → Result (List (List ℕ) × ℕ) DecodeError
    → Result (List (List ℕ) × ℕ) DecodeError
strings_after strings rest = rest >>= λ x. Ok (strings ++ x.0, x.1)

-- none was read
pub strings_all : (rest : Result (List (List ℕ) × ℕ) DecodeError) → strings_after [] rest ≡ rest
strings_all (Ok x) = refl
strings_all (Err fault) = refl

-- one more
one_more : (strings : List (List ℕ)) (string : List ℕ) (rest : Result (List (List ℕ) × ℕ) DecodeError)
    → strings_after strings (rest >>= λ x. Ok (string ∷ x.0, x.1)) ≡ strings_after (strings ++ string ∷ []) rest
one_more strings string (Ok x) = ap (λ y. Ok (y, x.1)) (sym (append_assoc strings (string ∷ []) x.0))
one_more strings string (Err fault) = refl

pub string_next : (strings : List (List ℕ)) (m : List ℕ) (p e : ℕ) → e ≤ length m → p < e
    → strings_after strings (strings_at (e - p) m p e)
    ≡ (counted_at w8 m p e >>= λ x. strings_after (strings ++ x.0 ∷ []) (strings_at (e - x.1) m x.1 e))
string_next strings m p e within lt =
    let more : e - p ≡ suc (e - p - 1) = omega arith in
    ap (λ k. strings_after strings (strings_at k m p e)) more
    ∙ ap (strings_after strings) (strings_more (e - p - 1) m p e lt)
    ∙ go (counted_at w8 m p e) refl
  where
    go : (r : Result (List ℕ × ℕ) DecodeError) → counted_at w8 m p e ≡ r
        → strings_after strings (r >>= λ x. strings_at (e - p - 1) m x.1 e >>= λ y. Ok (x.0 ∷ y.0, y.1))
        ≡ (r >>= λ x. strings_after (strings ++ x.0 ∷ []) (strings_at (e - x.1) m x.1 e))
    go (Ok x) read =
        let on : p < x.1 = counted_on m p e x.0 x.1 within read in
        one_more strings x.0 (strings_at (e - p - 1) m x.1 e)
        ∙ ap (strings_after (strings ++ x.0 ∷ []))
        (strings_enough (e - p - 1) (e - x.1) m x.1 e within (omega (arith, on, lt)) (omega arith))
    go (Err fault) read = refl

pub string_stop : (strings : List (List ℕ)) (m : List ℕ) (p e : ℕ) → e ≤ p
    → strings_after strings (strings_at (e - p) m p e) ≡ Ok (strings, p)
string_stop strings m p e le = ap (strings_after strings) (strings_end (e - p) m p e le)
    ∙ ap (λ y. Ok (y, p)) (append-nil strings)
