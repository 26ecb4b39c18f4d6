-- Fields copied one behind the other.
use Rattle.std.proofs.Common.{◌≡◌, ℕ, ◌+◌, ◌≤◌, ◌<◌, Bool, true, false, cond, ltb, List, [], ◌∷◌, ◌++◌, length}
use Rattle.std.proofs.Common.{drop, get_or, Result, Ok, Err, refl, sym, ap, subst, ◌∙◌, arith, append_assoc}
use Rattle.std.proofs.Common.{add-one, drop-cons, length-append}
use Rattle.std.proofs.lemmas.Bool.{lt-ltb, le-ltb, ltb-true, ltb-false}
use Rattle.std.proofs.lemmas.List.{append-nil, drop_all}
use Rattle.std.specs.Prelude.{slice_range, MatchResult}
use Rattle.dns_wire.specs.declared.error.DecodeError.{DecodeError}
use Rattle.dns_wire.specs.declared.error.EmitError.{EmitError}
use Rattle.dns_wire.specs.Octets.{AreOctets}
use Rattle.dns_wire.specs.Reading.{◌>>=◌}
use Rattle.dns_wire.proofs.FieldLaws.{is_ok_same}
use Rattle.dns_names.specs.Names.{wire}
use Rattle.dns_names.specs.Places.{name_at}
use Rattle.dns_names.specs.Skipping.{without_value}
use Rattle.dns_wire.specs.Joining.{joined}
use Rattle.dns_grammar.specs.Fields.{Value, Field, any, canonical_name, no_fault, value_at, fields_at}
use Rattle.dns_grammar.specs.Fields.{value_octets, fields_octets, FieldsAt}
use Rattle.dns_grammar.specs.declared.check.FieldKind.{FieldKind}
use Rattle.dns_grammar.specs.FieldKinds.{kind_field, kind_fields}
use Rattle.dns_grammar.proofs.FieldLaws.{fields_stand}
use Rattle.message_walk.specs.declared.data_error.DataError.{DataError}
use Rattle.message_walk.specs.declared.data_error.DataError.TheVariants.{DataTooLong}
use Rattle.message_walk.specs.Copies.{Puts, read_octets, canonical_from, put, name_kind, NoName}
use Rattle.message_walk.proofs.Slices.{value_slice}

-- ---- octets put behind others

-- octets that were put
put_is : (b : Bool) (x y : List ℕ) (cause : DataError)
    → ◌≡◌ {A = Result (List ℕ) DataError} (cond b (Err cause) (Ok x)) (Ok y) → (b ≡ false) × (x ≡ y)
put_is true x y cause h = absurd cc
put_is false x y cause h = (refl, cc)

-- octets that were refused
not_put : (b : Bool) (x : List ℕ) (cause other : DataError)
    → ◌≡◌ {A = Result (List ℕ) DataError} (cond b (Err cause) (Ok x)) (Err other) → (b ≡ true) × (cause ≡ other)
not_put true x cause other h = (refl, cc)
not_put false x cause other h = absurd cc

pub put_fits : (held octets new : List ℕ) → new ≡ held ++ octets → length new ≤ 65535 → put held (Ok octets) ≡ Ok new
put_fits held octets new is le =
    let few : length (held ++ octets) ≤ 65535 = subst (λ (l : List ℕ). length l ≤ 65535) is le in
    let test : ltb 65535 (length (held ++ octets)) ≡ false = le-ltb _ _ few in
    rw test (ap (λ (l : List ℕ). let ok : Result (List ℕ) DataError = Ok l in ok) (sym is))

pub put_refused : (held octets : List ℕ) → 65535 < length held + length octets → put held (Ok octets) ≡ Err DataTooLong
put_refused held octets lt =
    let many : 65535 < length (held ++ octets) = omega (arith, length-append held octets) in
    let test : ltb 65535 (length (held ++ octets)) ≡ true = lt-ltb _ _ many in
    rw test refl

-- what a buffer answers to octets that were written
pub appended : (result : Result (Unit {0}) DataError) (old new octets : List ℕ) (written : Result (List ℕ) EmitError)
    → written ≡ Ok octets
    → MatchResult result (λ _. (new ≡ old ++ octets) × (length new ≤ 65535))
    (λ e. (e ≡ DataTooLong) × (new ≡ old) × (65535 < length old + length octets))
    → Puts result new (put old written)
appended (Ok x) old new octets written is h = ap (put old) is ∙ put_fits old octets new h.0 h.1
appended (Err cause) old new octets written is h = ap (put old) is ∙ put_refused old octets h.2
    ∙ ap (λ (e : DataError). let err : Result (List ℕ) DataError = Err e in err) (sym h.0)

-- what was put fits
pub put_small : (held : List ℕ) (octets : Result (List ℕ) EmitError) (new : List ℕ) → put held octets ≡ Ok new
    → length new ≤ 65535
put_small held (Ok octets) new h =
    let is = put_is (ltb 65535 (length (held ++ octets))) (held ++ octets) new DataTooLong h in
    let few : length (held ++ octets) ≤ 65535 = ltb-false _ _ is.0 in
    subst (λ (l : List ℕ). length l ≤ 65535) is.1 few
put_small held (Err cause) new h = absurd cc

-- the one cause of a refusal
put_cause : (held : List ℕ) (octets : Result (List ℕ) EmitError) (cause : DataError) → put held octets ≡ Err cause
    → ◌≡◌ {A = Result (List ℕ) DataError} (Err DataTooLong) (Err cause)
put_cause held (Ok x) cause h =
    let is = not_put (ltb 65535 (length (held ++ x))) (held ++ x) DataTooLong cause h in
    ap (λ (e : DataError). let err : Result (List ℕ) DataError = Err e in err) is.1
put_cause held (Err d) cause h = h

-- the first of two pieces was put, and then the other is
put_first : (held : List ℕ) (first rest : Result (List ℕ) EmitError) (new : List ℕ)
    → put held (joined first (Ok [])) ≡ Ok new → put held (joined first rest) ≡ put new rest
put_first held (Ok x) rest new h =
    let is = put_is (ltb 65535 (length (held ++ (x ++ [])))) (held ++ (x ++ [])) new DataTooLong h in
    let new_is : held ++ x ≡ new = ap (λ (l : List ℕ). held ++ l) (sym (append-nil x)) ∙ is.1 in
    behind rest new_is
  where
    behind : (r : Result (List ℕ) EmitError) → held ++ x ≡ new → put held (joined (Ok x) r) ≡ put new r
    behind (Ok y) e = ap choose (sym (append_assoc held x y) ∙ ap (λ (l : List ℕ). l ++ y) e)
      where
        choose : List ℕ → Result (List ℕ) DataError
        choose l = cond (ltb 65535 (length l)) (Err DataTooLong) (Ok l)
    behind (Err d) e = refl
put_first held (Err d) rest new h = absurd cc

-- the first of two pieces was refused, and so are both
put_neither : (held : List ℕ) (first rest : Result (List ℕ) EmitError) (cause : DataError)
    → put held (joined first (Ok [])) ≡ Err cause → put held (joined first rest) ≡ Err cause
put_neither held (Ok x) (Ok y) cause h =
    let is = not_put (ltb 65535 (length (held ++ (x ++ [])))) (held ++ (x ++ [])) DataTooLong cause h in
    let many : 65535 < length (held ++ (x ++ [])) = ltb-true _ _ is.0 in
    let more : 65535 < length held + length (x ++ y) = omega (
      arith,
      many,
      length-append held (x ++ []),
      length-append x [],
      length-append x y,
    ) in
    put_refused held (x ++ y) more ∙ ap (λ (e : DataError). let err : Result (List ℕ) DataError = Err e in err) is.1
put_neither held (Ok x) (Err d) cause h =
    let is = not_put (ltb 65535 (length (held ++ (x ++ [])))) (held ++ (x ++ [])) DataTooLong cause h in
    ap (λ (e : DataError). let err : Result (List ℕ) DataError = Err e in err) is.1
put_neither held (Err d) rest cause h = h

-- ---- a field, and those behind it

-- what is read of a field and those behind it, by what is read of each
abbrev field_read : Value × ℕ → Result (Unit {0}) DecodeError → Result (List Value × ℕ) DecodeError
    → Result (List Value × ℕ) DecodeError
field_read value test rest = do
  _ ← test
  values ← rest
  Ok (value.0 ∷ values.0, values.1)

-- the octets of a field and of those behind it
behind_first : (held : List ℕ) (field : Field) (fields : List Field) (value : Value) (q : ℕ)
    (rest : Result (List Value × ℕ) DecodeError) (new : List ℕ)
    → put held (joined (value_octets true field.kind value) (Ok [])) ≡ Ok new
    → put held (read_octets (field ∷ fields) (field_read (value, q) (Ok tt) rest)) ≡ put new (read_octets fields rest)
behind_first held field fields value q (Ok values) new h = put_first held (value_octets true field.kind value)
    (fields_octets true fields values.0) new h
behind_first held field fields value q (Err fault) new h = refl

after_first : (held : List ℕ) (field : Field) (fields : List Field) (value : Value) (q : ℕ)
    (rest : Result (List Value × ℕ) DecodeError) (cause : DataError)
    → put held (joined (value_octets true field.kind value) (Ok [])) ≡ Err cause
    → put held (read_octets (field ∷ fields) (field_read (value, q) (Ok tt) rest)) ≡ Err cause
after_first held field fields value q (Ok values) cause h = put_neither held (value_octets true field.kind value)
    (fields_octets true fields values.0) cause h
after_first held field fields value q (Err fault) cause h =
    put_cause held (joined (value_octets true field.kind value) (Ok [])) cause h

pub copied_more : (field : Field) (fields : List Field) (m : List ℕ) (p e q : ℕ) (held new : List ℕ)
    → without_value (fields_at (field ∷ []) m p e) ≡ Ok (tt, q)
    → put held (canonical_from (field ∷ []) m p e) ≡ Ok new
    → put held (canonical_from (field ∷ fields) m p e) ≡ put new (canonical_from fields m q e)
unfolding canonical_from
copied_more field fields m p e q held new = go (value_at field.kind m p e)
  where
    tested : (value : Value × ℕ) (test : Result (Unit {0}) DecodeError)
        → without_value (field_read value test (Ok ([], value.1))) ≡ Ok (tt, q)
        → put held (read_octets (field ∷ []) (field_read value test (Ok ([], value.1)))) ≡ Ok new
        → put held (read_octets (field ∷ fields) (field_read value test (fields_at fields m value.1 e)))
        ≡ put new (read_octets fields (fields_at fields m q e))
    tested value (Ok u) is h =
        let end : value.1 ≡ q = ap (λ (y : Unit {0} × ℕ). y.1) (is_ok_same (tt, value.1) (tt, q) is) in
        behind_first held field fields value.0 value.1 (fields_at fields m value.1 e) new h
        ∙ ap (λ k. put new (read_octets fields (fields_at fields m k e))) end
    tested value (Err fault) is h = absurd cc

    go : (r : Result (Value × ℕ) DecodeError)
        → without_value (r >>= λ value. field_read value (no_fault (field.fault value.0)) (Ok ([], value.1)))
        ≡ Ok (tt, q)
        → put held (read_octets (field ∷ [])
        (r >>= λ value. field_read value (no_fault (field.fault value.0)) (Ok ([], value.1)))) ≡ Ok new
        → put held (read_octets (field ∷ fields)
        (r >>= λ value. field_read value (no_fault (field.fault value.0)) (fields_at fields m value.1 e)))
        ≡ put new (read_octets fields (fields_at fields m q e))
    go (Ok value) is h = tested value (no_fault (field.fault value.0)) is h
    go (Err fault) is h = absurd cc

pub copied_none : (field : Field) (fields : List Field) (m : List ℕ) (p e : ℕ) (held : List ℕ) (cause : DataError)
    → put held (canonical_from (field ∷ []) m p e) ≡ Err cause
    → put held (canonical_from (field ∷ fields) m p e) ≡ Err cause
unfolding canonical_from
copied_none field fields m p e held cause = go (value_at field.kind m p e)
  where
    tested : (value : Value × ℕ) (test : Result (Unit {0}) DecodeError)
        → put held (read_octets (field ∷ []) (field_read value test (Ok ([], value.1)))) ≡ Err cause
        → put held (read_octets (field ∷ fields) (field_read value test (fields_at fields m value.1 e))) ≡ Err cause
    tested value (Ok u) h = after_first held field fields value.0 value.1 (fields_at fields m value.1 e) cause h
    tested value (Err fault) h = h

    go : (r : Result (Value × ℕ) DecodeError)
        → put held (read_octets (field ∷ [])
        (r >>= λ value. field_read value (no_fault (field.fault value.0)) (Ok ([], value.1)))) ≡ Err cause
        → put held (read_octets (field ∷ fields)
        (r >>= λ value. field_read value (no_fault (field.fault value.0)) (fields_at fields m value.1 e)))
        ≡ Err cause
    go (Ok value) h = tested value (no_fault (field.fault value.0)) h
    go (Err fault) h = h

-- ---- the fields from an index on

fields_from : {T : Type 0} (tested : T → Field) (forms : List (FieldKind T)) (i : ℕ) (form : FieldKind T)
    → i < length forms → form ≡ get_or forms i form
    → kind_fields tested (drop i forms) ≡ kind_field tested form ∷ kind_fields tested (drop (i + 1) forms)
fields_from tested forms i form lt is =
    let split : drop i forms ≡ get_or forms i form ∷ drop (i + 1) forms = rw (add-one, drop-cons forms i form) refl in
    ap (kind_fields tested) (split ∙ ap (λ f. f ∷ drop (i + 1) forms) (sym is))

pub copies_next : {T : Type 0} (tested : T → Field) (forms : List (FieldKind T)) (i : ℕ) (form : FieldKind T)
    (m : List ℕ) (p e q : ℕ) (held new : List ℕ)
    → i < length forms → form ≡ get_or forms i form
    → without_value (fields_at (kind_field tested form ∷ []) m p e) ≡ Ok (tt, q)
    → put held (canonical_from (kind_field tested form ∷ []) m p e) ≡ Ok new
    → put held (canonical_from (kind_fields tested (drop i forms)) m p e)
    ≡ put new (canonical_from (kind_fields tested (drop (i + 1) forms)) m q e)
copies_next tested forms i form m p e q held new lt is read h =
    ap (λ fields. put held (canonical_from fields m p e)) (fields_from tested forms i form lt is)
    ∙ copied_more (kind_field tested form) (kind_fields tested (drop (i + 1) forms)) m p e q held new read h

pub copies_refused : {T : Type 0} (tested : T → Field) (forms : List (FieldKind T)) (i : ℕ) (form : FieldKind T)
    (m : List ℕ) (p e : ℕ) (held : List ℕ) (cause : DataError)
    → i < length forms → form ≡ get_or forms i form
    → put held (canonical_from (kind_field tested form ∷ []) m p e) ≡ Err cause
    → put held (canonical_from (kind_fields tested (drop i forms)) m p e) ≡ Err cause
copies_refused tested forms i form m p e held cause lt is h =
    ap (λ fields. put held (canonical_from fields m p e)) (fields_from tested forms i form lt is)
    ∙ copied_none (kind_field tested form) (kind_fields tested (drop (i + 1) forms)) m p e held cause h

pub copies_stop : {T : Type 0} (tested : T → Field) (forms : List (FieldKind T)) (i : ℕ) (m : List ℕ) (p e : ℕ)
    (held : List ℕ)
    → length forms ≤ i → length held ≤ 65535
    → put held (canonical_from (kind_fields tested (drop i forms)) m p e) ≡ Ok held
unfolding canonical_from
copies_stop tested forms i m p e held le few =
    ap (λ l. put held (canonical_from (kind_fields tested l) m p e)) (drop_all i forms le)
    ∙ put_fits held [] held (sym (append-nil held)) few

-- ---- one field

-- the values that were left out
read_values : {A : Type 0} (read : Result (A × ℕ) DecodeError) (q : ℕ) → without_value read ≡ Ok (tt, q)
    → (x : A) × (read ≡ Ok (x, q))
read_values (Ok x) q h = (
  x.0,
  ap (λ k. Ok (x.0, k)) (ap (λ (y : Unit {0} × ℕ). y.1)
      (is_ok_same (tt, x.1) (tt, q) h)),
)
read_values (Err fault) q h = absurd cc

-- a field other than a name is copied as it stands
pub octets_copied : (field : Field) (m : List ℕ) (p e q : ℕ) → AreOctets m → e ≤ length m → NoName field.kind
    → without_value (fields_at (field ∷ []) m p e) ≡ Ok (tt, q)
    → canonical_from (field ∷ []) m p e ≡ Ok (slice_range m p q)
unfolding canonical_from
octets_copied field m p e q octets within other h =
    let read = read_values (fields_at (field ∷ []) m p e) q h in
    rw read.1 (written read.0 (fields_stand (field ∷ []) m p e read.0 q within read.1))
  where
    written : (values : List Value) → FieldsAt (field ∷ []) m p e values q
        → fields_octets true (field ∷ []) values ≡ Ok (slice_range m p q)
    written [] s = absurd s
    written (v ∷ []) s =
        let r : ℕ = s.0 in
        let value = value_slice field.kind m p e v r octets other s.1 in
        rw value (ap (λ (l : List ℕ). let ok : Result (List ℕ) EmitError = Ok l in ok)
        (append-nil (slice_range m p r) ∙ ap (slice_range m p) (sym s.3)))
    written (v ∷ w ∷ values) s = absurd s.3

-- nothing is copied where nothing is read
pub nothing_copied : (fields : List Field) (m : List ℕ) (p e : ℕ) (held : List ℕ) (fault : DecodeError)
    → without_value (fields_at fields m p e) ≡ Err fault
    → put held (canonical_from fields m p e) ≡ Err DataTooLong
unfolding canonical_from
nothing_copied fields m p e held fault = go (fields_at fields m p e)
  where
    go : (r : Result (List Value × ℕ) DecodeError) → without_value r ≡ Err fault
        → put held (read_octets fields r) ≡ Err DataTooLong
    go (Ok values) h = absurd cc
    go (Err d) h = refl

nothing_behind : (x : List ℕ) → ◌≡◌ {A = Result (List ℕ) EmitError} (Ok (x ++ [])) (Ok x)
nothing_behind x = ap (λ (l : List ℕ). let ok : Result (List ℕ) EmitError = Ok l in ok) (append-nil x)

-- a name is copied lowered or as it is
pub name_copied : (lowered : Bool) (m : List ℕ) (p e : ℕ) (n : List (List ℕ)) (q : ℕ) → name_at m p e ≡ Ok (n, q)
    → (canonical_from (any (name_kind lowered) ∷ []) m p e ≡ Ok (wire (canonical_name lowered n)))
    × (without_value (fields_at (any (name_kind lowered) ∷ []) m p e) ≡ Ok (tt, q))
unfolding canonical_from
name_copied true m p e n q h = (rw h (nothing_behind (wire (canonical_name true n))), rw h refl)
name_copied false m p e n q h = (rw h (nothing_behind (wire n)), rw h refl)

pub no_name_copied : (lowered : Bool) (m : List ℕ) (p e : ℕ) (held : List ℕ) (fault : DecodeError)
    → name_at m p e ≡ Err fault
    → put held (canonical_from (any (name_kind lowered) ∷ []) m p e) ≡ Err DataTooLong
unfolding canonical_from
no_name_copied true m p e held fault h = rw h refl
no_name_copied false m p e held fault h = rw h refl
