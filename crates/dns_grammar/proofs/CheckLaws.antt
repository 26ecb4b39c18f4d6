-- Fields without_value one behind the other.
use Rattle.std.proofs.Common.{◌≡◌, inl, inr, ℕ, zero, suc, ◌+◌, ◌-◌, ◌<◌, ◌≤◌, List, [], ◌∷◌, length, drop, get_or}
use Rattle.std.proofs.Common.{Result, Ok, Err, refl, sym, ap, ◌∙◌, arith, add-one, drop-cons}
use Rattle.std.proofs.lemmas.List.{drop_all}
use Rattle.dns_wire.specs.declared.error.DecodeError.{DecodeError}
use Rattle.dns_wire.specs.Reading.{◌>>=◌}
use Rattle.dns_grammar.specs.Fields.{Value, Field, value_at, strings_at, no_fault, fields_at}
use Rattle.dns_grammar.proofs.FieldLaws.{more_strings, strings_end, strings_more, counted_forward}
use Rattle.dns_wire.specs.Reading.{counted_at}
use Rattle.dns_wire.proofs.FieldLaws.{counted_stands}
use Rattle.std.proofs.lemmas.Bool.Decides.{leb_tells}
use Rattle.std.specs.Int.{w8}
use Rattle.dns_names.specs.Skipping.{without_value}
use Rattle.dns_grammar.specs.declared.check.FieldKind.{FieldKind}
use Rattle.dns_grammar.specs.FieldKinds.{kind_field, kind_fields}

-- ---- strings

abbrev string_before : List ℕ → Result (List (List ℕ) × ℕ) DecodeError → Result (List (List ℕ) × ℕ) DecodeError
string_before string rest = rest >>= λ strings. Ok (string ∷ strings.0, strings.1)

-- a string, and those behind it read in two ways
behind_string : (a b : ℕ) (m : List ℕ) (p e : ℕ) → e ≤ length m
    → ((q : ℕ) → p < q → strings_at a m q e ≡ strings_at b m q e)
    → more_strings a m p e ≡ more_strings b m p e
behind_string a b m p e within same = go (counted_at w8 m p e) refl
  where
    go : (r : Result (List ℕ × ℕ) DecodeError) → counted_at w8 m p e ≡ r
        → (r >>= λ x. string_before x.0 (strings_at a m x.1 e)) ≡ (r >>= λ x. string_before x.0 (strings_at b m x.1 e))
    go (Ok x) read = ap (string_before x.0) (same x.1
        (counted_forward m p e x.0 x.1 (counted_stands w8 m p e x.0 x.1 within read)))
    go (Err fault) read = refl

-- as many steps as there are octets are enough
pub strings_enough : (a b : ℕ) (m : List ℕ) (p e : ℕ) → e ≤ length m → e ≤ p + a → e ≤ p + b
    → strings_at a m p e ≡ strings_at b m p e
strings_enough zero b m p e within h k = let le : e ≤ p = omega arith in strings_end zero m p e le
    ∙ sym (strings_end b m p e le)
strings_enough (suc a) zero m p e within h k = let le : e ≤ p = omega arith in strings_end (suc a) m p e le
    ∙ sym (strings_end zero m p e le)
strings_enough (suc a) (suc b) m p e within h k =
    elim (leb_tells e p) [
      | inl t ↦ strings_end (suc a) m p e t.1 ∙ sym (strings_end (suc b) m p e t.1)
      | inr t ↦
          strings_more a m p e t.1
          ∙ behind_string a b m p e within (λ q lt. strings_enough a b m q e within (omega arith) (omega arith))
          ∙ sym (strings_more b m p e t.1)
    ]

-- a string takes octets
pub counted_on : (m : List ℕ) (p e : ℕ) (x : List ℕ) (q : ℕ) → e ≤ length m → counted_at w8 m p e ≡ Ok (x, q) → p < q
counted_on m p e x q within read = counted_forward m p e x q (counted_stands w8 m p e x q within read)

pub strings_next : (m : List ℕ) (p e : ℕ) → e ≤ length m → p < e
    → without_value (strings_at (e - p) m p e) ≡ (without_value (counted_at w8 m p e)
    >>= λ x. without_value (strings_at (e - x.1) m x.1 e))
strings_next m p e within lt =
    let more : e - p ≡ suc (e - p - 1) = omega arith in
    ap (λ k. without_value (strings_at k m p e)) more ∙ ap without_value (strings_more (e - p - 1) m p e lt)
    ∙ go (counted_at w8 m p e) refl
  where
    forget : (string : List ℕ) (rest : Result (List (List ℕ) × ℕ) DecodeError)
        → without_value (string_before string rest) ≡ without_value rest
    forget string (Ok x) = refl
    forget string (Err fault) = refl

    go : (r : Result (List ℕ × ℕ) DecodeError) → counted_at w8 m p e ≡ r
        → without_value (r >>= λ x. string_before x.0 (strings_at (e - p - 1) m x.1 e))
        ≡ (without_value r >>= λ x. without_value (strings_at (e - x.1) m x.1 e))
    go (Ok x) read =
        let forward : p < x.1 = counted_forward m p e x.0 x.1 (counted_stands w8 m p e x.0 x.1 within read) in
        forget x.0 (strings_at (e - p - 1) m x.1 e)
        ∙ ap without_value (strings_enough (e - p - 1) (e - x.1) m x.1 e within (omega (arith, forward, lt))
        (omega arith))
    go (Err fault) read = refl

pub strings_stop : (m : List ℕ) (p e : ℕ) → e ≤ p → without_value (strings_at (e - p) m p e) ≡ Ok (tt, p)
strings_stop m p e le = ap without_value (strings_end (e - p) m p e le)

-- ---- fields

-- a field, and those behind it
pub fields_split : (field : Field) (fields : List Field) (m : List ℕ) (p e : ℕ)
    → without_value (fields_at (field ∷ fields) m p e)
    ≡ (without_value (fields_at (field ∷ []) m p e) >>= λ x. without_value (fields_at fields m x.1 e))
fields_split field fields m p e = go (value_at field.kind m p e)
  where
    forget : (value : Value) (rest : Result (List Value × ℕ) DecodeError)
        → without_value (rest >>= λ values. Ok (value ∷ values.0, values.1)) ≡ without_value rest
    forget value (Ok x) = refl
    forget value (Err fault) = refl

    behind : Value × ℕ → Result (Unit {0}) DecodeError → Result (List Value × ℕ) DecodeError
        → Result (List Value × ℕ) DecodeError
    behind value test rest = do
      _ ← test
      values ← rest
      Ok (value.0 ∷ values.0, values.1)

    tested : (value : Value × ℕ) (test : Result (Unit {0}) DecodeError)
        → without_value (behind value test (fields_at fields m value.1 e))
        ≡ (without_value (behind value test (Ok ([], value.1))) >>= λ x. without_value (fields_at fields m x.1 e))
    tested value (Ok u) = forget value.0 (fields_at fields m value.1 e)
    tested value (Err fault) = refl

    go : (r : Result (Value × ℕ) DecodeError)
        → without_value (r >>= λ value. behind value (no_fault (field.fault value.0)) (fields_at fields m value.1 e))
        ≡ (without_value (r >>= λ value. behind value (no_fault (field.fault value.0)) (Ok ([], value.1)))
        >>= λ x. without_value (fields_at fields m x.1 e))
    go (Err fault) = refl
    go (Ok value) = tested value (no_fault (field.fault value.0))

-- the fields from i on, split at the first
pub fields_next : {T : Type 0} (tested : T → Field) (forms : List (FieldKind T)) (i : ℕ) (form : FieldKind T)
    (m : List ℕ) (p e : ℕ)
    → i < length forms → form ≡ get_or forms i form
    → without_value (fields_at (kind_fields tested (drop i forms)) m p e)
    ≡ (without_value (fields_at (kind_field tested form ∷ []) m p e)
    >>= λ x. without_value (fields_at (kind_fields tested (drop (i + 1) forms)) m x.1 e))
fields_next tested forms i form m p e lt is =
    let split : drop i forms ≡ get_or forms i form ∷ drop (i + 1) forms = rw (add-one, drop-cons forms i form) refl in
    ap (λ l. without_value (fields_at (kind_fields tested l) m p e)) (split ∙ ap (λ f. f ∷ drop (i + 1) forms) (sym is))
    ∙ fields_split (kind_field tested form) (kind_fields tested (drop (i + 1) forms)) m p e

pub fields_stop : {T : Type 0} (tested : T → Field) (forms : List (FieldKind T)) (i : ℕ) (m : List ℕ) (p e : ℕ)
    → length forms ≤ i → without_value (fields_at (kind_fields tested (drop i forms)) m p e) ≡ Ok (tt, p)
fields_stop tested forms i m p e le = ap (λ l. without_value (fields_at (kind_fields tested l) m p e))
    (drop_all i forms le)
