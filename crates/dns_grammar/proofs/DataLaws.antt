-- Record data are read exactly where they stand.
use Rattle.std.proofs.Common.{◌≡◌, ◌≢◌, ℕ, ◌+◌, ◌-◌, ◌≤◌, ◌<◌, Bool, true, false, cond, eqb, ltb, leb, ◌&&◌, not, List}
use Rattle.std.proofs.Common.{length, Option, Some, None, Result, Ok, refl, sym, ap, subst, ◌∙◌, arith, eq-eqb}
use Rattle.std.proofs.lemmas.Bool.{ltb-false, le-ltb, le-leb, leb-true, eqb-true, eqb-false, ne_eqb}
use Rattle.dns_wire.specs.declared.error.DecodeError.{DecodeError}
use Rattle.dns_wire.specs.declared.error.DecodeError.TheVariants.{InsufficientBytes, IncorrectRDataLengthRead}
use Rattle.dns_wire.specs.Reading.{◌>>=◌}
use Rattle.dns_grammar.specs.Fields.{Value, Field, Table, row_of, FieldsAt, fields_at}
use Rattle.dns_grammar.specs.RecordData.{tsig_type, RowAt, EmptyAt, RDataAt, is_empty_at, filled_by, fields_filling}
use Rattle.dns_grammar.specs.RecordData.{one_type_data_at, rdata_at}
use Rattle.dns_grammar.specs.Laws.{RowIsReadWhereItStands, DataIsReadWhereItStands, OneData}
use Rattle.dns_wire.proofs.FieldLaws.{is_ok_same, bind_ok, passed}
use Rattle.dns_grammar.proofs.Steps.{chosen}
use Rattle.dns_grammar.proofs.FieldLaws.{fields_stand, fields_read}

pub row_stands : (fs : List Field) (m : List ℕ) (p e : ℕ) (vs : List Value) → e ≤ length m
    → fields_filling fs m p e ≡ Ok vs → FieldsAt fs m p e vs e
unfolding fields_filling
row_stands fs m p e vs within h =
    let b = bind_ok (fields_at fs m p e) (filled_by p e) vs h in
    let t = passed (eqb b.0.1 e) (IncorrectRDataLengthRead (b.0.1 - p) (e - p)) b.0.0 vs b.2 in
    let end : b.0.1 ≡ e = eqb-true b.0.1 e t.0 in
    subst (λ z. FieldsAt fs m p e z e) t.1 (subst (λ k. FieldsAt fs m p e b.0.0 k) end
    (fields_stand fs m p e b.0.0 b.0.1 within b.1))

row_read : (fs : List Field) (m : List ℕ) (p e : ℕ) (vs : List Value) → FieldsAt fs m p e vs e
    → fields_filling fs m p e ≡ Ok vs
unfolding fields_filling
row_read fs m p e vs s = let same : eqb e e ≡ true = eq-eqb e e refl in rw (fields_read fs m p e vs e s, same) refl

-- ---- the data of one type

data_stands : (fs : List Field) (m : List ℕ) (p len : ℕ) (vs : List Value) (q : ℕ)
    → one_type_data_at fs m p len ≡ Ok (vs, q) → RowAt fs m p len vs × (q ≡ p + len)
unfolding one_type_data_at
data_stands fs m p len vs q h =
    let fits = chosen (ltb (length m) (p + len)) InsufficientBytes _ (vs, q) h in
    let some = chosen (eqb len 0) InsufficientBytes _ (vs, q) fits.1 in
    let within : p + len ≤ length m = ltb-false _ _ fits.0 in
    let ne : len ≢ 0 = eqb-false len 0 some.0 in
    let row = bind_ok (fields_filling fs m p (p + len)) _ (vs, q) some.1 in
    let same = is_ok_same (row.0, p + len) (vs, q) row.2 in (
      record {
        nonempty = omega arith;
        within = within;
        filled = subst (λ z. FieldsAt fs m p (p + len) z (p + len))
            (ap (λ (y : List Value × ℕ). y.0) same) (row_stands fs m p (p + len) row.0 within row.1);
      },
      sym (ap (λ (y : List Value × ℕ). y.1) same),
    )

data_read : (fs : List Field) (m : List ℕ) (p len : ℕ) (vs : List Value) (q : ℕ) → RowAt fs m p len vs × (q ≡ p + len)
    → one_type_data_at fs m p len ≡ Ok (vs, q)
unfolding one_type_data_at
data_read fs m p len vs q s =
    let fits : ltb (length m) (p + len) ≡ false = le-ltb _ _ s.0.within in
    let lt : 0 < len = s.0.nonempty in
    let some : eqb len 0 ≡ false = ne_eqb len 0 (omega (arith, lt)) in
    rw (fits, some, row_read fs m p (p + len) vs s.0.filled, s.1) refl

pub row_is_read : (fs : List Field) → RowIsReadWhereItStands fs
row_is_read fs m p len vs q = (data_stands fs m p len vs q, data_read fs m p len vs q)

-- ---- the data of any type

-- a record that has no data, and may have none
pub empty_test : (m : List ℕ) (p len rtype : ℕ) → is_empty_at m p len rtype ≡ true → EmptyAt m p len rtype
empty_test m p len rtype h =
    let b = all_true (eqb len 0) (eqb rtype tsig_type) (leb p (length m)) h in
    record { empty = eqb-true len 0 b.0; not_tsig = eqb-false rtype tsig_type b.1; within = leb-true _ _ b.2 }
  where
    all_true : (a b c : Bool) → a && (not b && c) ≡ true → (a ≡ true) × (b ≡ false) × (c ≡ true)
    all_true true false true h = (refl, refl, refl)
    all_true true false false h = absurd cc
    all_true true true c h = absurd cc
    all_true false b c h = absurd cc

pub is_empty_true : (m : List ℕ) (p len rtype : ℕ) → EmptyAt m p len rtype → is_empty_at m p len rtype ≡ true
is_empty_true m p len rtype h =
    let zero : eqb len 0 ≡ true = eq-eqb len 0 h.empty in
    let other : eqb rtype tsig_type ≡ false = ne_eqb rtype tsig_type h.not_tsig in
    let inside : leb p (length m) ≡ true = le-leb _ _ h.within in
    rw (zero, other, inside) refl

pub is_empty_false : (m : List ℕ) (p len rtype : ℕ) → 0 < len → is_empty_at m p len rtype ≡ false
is_empty_false m p len rtype lt = let some : eqb len 0 ≡ false = ne_eqb len 0 (omega (arith, lt)) in rw some refl

-- some data, and the place behind them
abbrev pub some_data : Result (List Value × ℕ) DecodeError → Result (Option (List Value) × ℕ) DecodeError
some_data read = read >>= λ values. Ok (Some values.0, values.1)

by_test : (table : Table) (m : List ℕ) (p len rtype : ℕ) (rdata : Option (List Value)) (q : ℕ) (b : Bool)
    → is_empty_at m p len rtype ≡ b
    → cond b (Ok (None, p)) (some_data (one_type_data_at (row_of table rtype) m p len)) ≡ Ok (rdata, q)
    → RDataAt table m p len rtype rdata × (q ≡ p + len)
by_test table m p len rtype rdata q true is h =
    let empty = empty_test m p len rtype is in
    let zero : len ≡ 0 = empty.empty in
    subst (λ (y : Option (List Value) × ℕ). RDataAt table m p len rtype y.0 × (y.1 ≡ p + len))
    (is_ok_same (None, p) (rdata, q) h) (empty, omega (arith, zero))
by_test table m p len rtype rdata q false is h =
    let row = bind_ok (one_type_data_at (row_of table rtype) m p len) _ (rdata, q) h in
    let stands = data_stands (row_of table rtype) m p len row.0.0 row.0.1 row.1 in
    subst (λ (y : Option (List Value) × ℕ). RDataAt table m p len rtype y.0 × (y.1 ≡ p + len))
    (is_ok_same (Some row.0.0, row.0.1) (rdata, q) row.2) stands

pub rdata_stands : (table : Table) (m : List ℕ) (p len rtype : ℕ) (rdata : Option (List Value)) (q : ℕ)
    → rdata_at table m p len rtype ≡ Ok (rdata, q) → RDataAt table m p len rtype rdata × (q ≡ p + len)
unfolding rdata_at
rdata_stands table m p len rtype rdata q h = by_test table m p len rtype rdata q (is_empty_at m p len rtype) refl h

pub rdata_read : (table : Table) (m : List ℕ) (p len rtype : ℕ) (rdata : Option (List Value)) (q : ℕ)
    → RDataAt table m p len rtype rdata × (q ≡ p + len) → rdata_at table m p len rtype ≡ Ok (rdata, q)
unfolding rdata_at
rdata_read table m p len rtype None q s =
    let is : len ≡ 0 = s.0.empty in
    let end : q ≡ p = omega (arith, s.1, is) in
    rw (is_empty_true m p len rtype s.0, end) refl
rdata_read table m p len rtype (Some vs) q s =
    rw (is_empty_false m p len rtype s.0.nonempty, data_read (row_of table rtype) m p len vs q s) refl

pub data_is_read : (table : Table) → DataIsReadWhereItStands table
data_is_read table m p len rtype rdata q = (
  rdata_stands table m p len rtype rdata q,
  rdata_read table m p len rtype
      rdata q,
)

pub one_data : (table : Table) → OneData table
one_data table m p len rtype rdata other a b =
    let read = rdata_read table m p len rtype in
    ap (λ (y : Option (List Value) × ℕ). y.0)
    (is_ok_same (rdata, p + len) (other, p + len) (sym (read rdata (p + len) (a, refl))
    ∙ read other (p + len) (b, refl)))
