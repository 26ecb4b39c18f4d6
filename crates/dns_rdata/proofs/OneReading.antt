-- Equal canonical octets are of data that agree.
use Rattle.std.proofs.Common.{◌≡◌, ℕ, ◌+◌, ◌<◌, Bool, true, false, not, ◌&&◌, cond, ltb, List, [], ◌∷◌, ◌++◌, length}
use Rattle.std.proofs.Common.{Option, Some, None, Result, Ok, Err, refl, sym, ap, subst, ◌∙◌, arith, length-append}
use Rattle.std.specs.Prelude.{nat_eq, unwrap_or, if◌then◌else◌}
use Rattle.dns_wire.specs.declared.error.EmitError.{EmitError}
use Rattle.dns_wire.specs.declared.error.EmitError.TheVariants.{DataTooLong}
use Rattle.dns_wire.specs.Lookup.{lookup}
use Rattle.dns_wire.specs.Octets.{AreOctets}
use Rattle.dns_wire.proofs.FieldLaws.{is_ok_same}
use Rattle.dns_names.specs.NameLaws.{length-wire-low}
use Rattle.dns_grammar.specs.Fields.{Kind, LoweredName, Value, Num, Str, Strs, Named, Field, Table, row_of, unknown_row}
use Rattle.dns_wire.specs.Joining.{joined}
use Rattle.dns_grammar.specs.Fields.{value_octets, fields_octets, SameValue, SameValues}
use Rattle.dns_grammar.specs.RecordData.{RowAt, RDataAt, fields_filling, fitting, canon, Agree}
use Rattle.dns_grammar.specs.Laws.{HoldsAll, takes_rest, rest_is_last, shown_value, shown_values}
use Rattle.dns_grammar.proofs.CanonicalLaws.{fields_canonical, agreeing_have_one_form}
use Rattle.dns_grammar.proofs.DataLaws.{row_is_read}
use Rattle.dns_grammar.proofs.ReadAgain.{read_row_again}
use Rattle.dns_grammar.proofs.ReadBack.{ok_octets, joins, written_reads}
use Rattle.dns_rdata.specs.OneReading.{rests_are_last, OneReading}
use Rattle.dns_rdata.proofs.OneReadingValues.{without_tests, shown_hold}

-- ---- equal shown values

value_same : (kind : Kind) (v w : Value) → shown_value kind v ≡ shown_value kind w → SameValue kind v w
value_same LoweredName (Named n) (Named z) same = cc
value_same LoweredName (Named n) (Num z) same = absurd cc
value_same LoweredName (Named n) (Str z) same = absurd cc
value_same LoweredName (Named n) (Strs z) same = absurd cc
value_same LoweredName (Num n) (Named z) same = absurd cc
value_same LoweredName (Str n) (Named z) same = absurd cc
value_same LoweredName (Strs n) (Named z) same = absurd cc
value_same _ v w same = same

values_same : (fields : List Field) (vs ws : List Value) → HoldsAll (without_tests fields) (shown_values fields vs)
    → shown_values fields vs ≡ shown_values fields ws → SameValues fields vs ws
values_same [] [] [] holds same = tt
values_same [] [] (w ∷ ws) holds same = absurd cc
values_same [] (v ∷ vs) ws holds same = absurd holds
values_same (f ∷ fs) [] ws holds same = absurd holds
values_same (f ∷ fs) (v ∷ vs) [] holds same = absurd cc
values_same (f ∷ fs) (v ∷ vs) (w ∷ ws) holds same =
    let first : shown_value f.kind v ≡ shown_value f.kind w = cc in
    let behind : shown_values fs vs ≡ shown_values fs ws = cc in
    (value_same f.kind v w first, values_same fs vs ws holds.2 behind)

-- ---- equal octets, whose fields may as well have no tests

octets_without_tests : (fields : List Field) (values : List Value)
    → fields_octets false (without_tests fields) values ≡ fields_octets false fields values
octets_without_tests [] [] = refl
octets_without_tests [] (v ∷ vs) = refl
octets_without_tests (f ∷ fs) [] = refl
octets_without_tests (f ∷ fs) (v ∷ vs) = ap (joined (value_octets false f.kind v)) (octets_without_tests fs vs)

last_without_tests : (fields : List Field) → rest_is_last (without_tests fields) ≡ rest_is_last fields
last_without_tests [] = refl
last_without_tests (f ∷ []) = refl
last_without_tests (f ∷ g ∷ fs) = ap (λ b. not (takes_rest f.kind) && b) (last_without_tests (g ∷ fs))

-- canonical octets are read as what they show
canonical_read : (fields : List Field) (values : List Value) (x : List ℕ) → rest_is_last fields ≡ true
    → HoldsAll (without_tests fields) (shown_values fields values) → fields_octets true fields values ≡ Ok x
    → fields_filling (without_tests fields) ([] ++ (x ++ [])) (length {A = ℕ} []) (length {A = ℕ} [] + length x)
    ≡ Ok (shown_values fields values)
canonical_read fields values x last holds is =
    written_reads (without_tests fields) (shown_values fields values) x [] [] (last_without_tests fields ∙ last) holds
    (octets_without_tests fields (shown_values fields values) ∙ sym (fields_canonical fields values) ∙ is)

octets_same : (fields : List Field) (vs ws : List Value) (x : List ℕ) → rest_is_last fields ≡ true
    → HoldsAll (without_tests fields) (shown_values fields vs)
    → HoldsAll (without_tests fields) (shown_values fields ws) → fields_octets true fields vs ≡ Ok x
    → fields_octets true fields ws ≡ Ok x → SameValues fields vs ws
octets_same fields vs ws x last holds others is other =
    values_same fields vs ws holds (is_ok_same _ _ (sym (canonical_read fields vs x last holds is)
    ∙ canonical_read fields ws x last others other))

-- ---- data that are not empty have canonical octets

value_length : (kind : Kind) (v : Value) (x y : List ℕ) → value_octets true kind v ≡ Ok x
    → value_octets false kind v ≡ Ok y → length x ≡ length y
value_length LoweredName (Named n) x y is other =
    sym (ap length (ok_octets _ x is)) ∙ length-wire-low n ∙ ap length (ok_octets _ y other)
value_length _ v x y is other = ap length (ok_octets x y (sym is ∙ other))

fields_length : (fields : List Field) (vs : List Value) (x y : List ℕ) → fields_octets true fields vs ≡ Ok x
    → fields_octets false fields vs ≡ Ok y → length x ≡ length y
fields_length [] [] x y is other = ap length (ok_octets x y (sym is ∙ other))
fields_length (f ∷ fs) (v ∷ vs) x y is other =
    let j = joins (value_octets true f.kind v) (fields_octets true fs vs) x is in
    let k = joins (value_octets false f.kind v) (fields_octets false fs vs) y other in
    let first = value_length f.kind v j.first k.first j.first_is k.first_is in
    let behind = fields_length fs vs j.second k.second j.second_is k.second_is in
    omega (
      arith,
      first,
      behind,
      ap length j.whole,
      ap length k.whole,
      length-append j.first j.second,
      length-append k.first k.second,
    )
fields_length [] (v ∷ vs) x y is other = absurd cc
fields_length (f ∷ fs) [] x y is other = absurd cc

canonical_some : (fields : List Field) (m : List ℕ) (p len : ℕ) (values : List Value) (x : List ℕ)
    → rest_is_last fields ≡ true → AreOctets m → RowAt fields m p len values
    → fields_octets true fields values ≡ Ok x → 0 < length x
canonical_some fields m p len values x last octets s is =
    let again = read_row_again fields last m p len values (p + len) octets
    ((row_is_read fields m p len values (p + len)).1 (s, refl)) in
    let stands = (row_is_read fields _ _ (length again.0) values _).0 (again.2 [] []) in
    let some : 0 < length again.0 = stands.0.nonempty in
    omega (arith, some, fields_length fields values x again.0 is again.1)

-- ---- the law

-- where octets fit, they are those that had to fit
fitted : (r : Result (List ℕ) EmitError) (x : List ℕ) → fitting r ≡ Ok x → r ≡ Ok x
fitted (Ok y) x is = chosen (ltb 65535 (length y)) y x is
  where
    chosen : (b : Bool) (y x : List ℕ) → ◌≡◌ {A = Result (List ℕ) EmitError} (cond b (Err DataTooLong) (Ok y)) (Ok x)
        → ◌≡◌ {A = Result (List ℕ) EmitError} (Ok y) (Ok x)
    chosen true y x is = absurd cc
    chosen false y x is = is
fitted (Err cause) x is = is

-- values that stand don't have the octets of empty data
not_empty : (fields : List Field) (m : List ℕ) (p len : ℕ) (values : List Value) (x : List ℕ)
    → rest_is_last fields ≡ true → AreOctets m → RowAt fields m p len values
    → fitting (fields_octets true fields values) ≡ Ok x → fitting (Ok []) ≡ Ok x → ⊥
not_empty fields m p len values x last octets s is empty =
    let some : 0 < length x = canonical_some fields m p len values x last octets s (fitted _ x is) in
    let none : [] ≡ x = ok_octets [] x (fitted (Ok []) x empty) in
    absurd (omega (arith, some, ap length none))

values_agree : (fields : List Field) (m n : List ℕ) (p q len size : ℕ) (vs ws : List Value) (x : List ℕ)
    → rest_is_last fields ≡ true → AreOctets m → AreOctets n → RowAt fields m p len vs → RowAt fields n q size ws
    → fitting (fields_octets true fields vs) ≡ Ok x → fitting (fields_octets true fields ws) ≡ Ok x
    → SameValues fields vs ws
values_agree fields m n p q len size vs ws x last octets others s t is other =
    octets_same fields vs ws x last (shown_hold fields m p (p + len) vs (p + len) octets s.filled)
    (shown_hold fields n q (q + size) ws (q + size) others t.filled) (fitted _ x is) (fitted _ x other)

data_agree : (table : Table) (m n : List ℕ) (p q len size rtype : ℕ) (rdata other : Option (List Value)) (x : List ℕ)
    → rest_is_last (row_of table rtype) ≡ true → AreOctets m → AreOctets n → RDataAt table m p len rtype rdata
    → RDataAt table n q size rtype other → canon table rtype rdata ≡ Ok x → canon table rtype other ≡ Ok x
    → Agree table rtype rdata other
data_agree table m n p q len size rtype None None x last octets others s t shown seen = tt
data_agree table m n p q len size rtype None (Some ws) x last octets others s t shown seen =
    absurd (not_empty (row_of table rtype) n q size ws x last others t seen shown)
data_agree table m n p q len size rtype (Some vs) None x last octets others s t shown seen =
    absurd (not_empty (row_of table rtype) m p len vs x last octets s shown seen)
data_agree table m n p q len size rtype (Some vs) (Some ws) x last octets others s t shown seen =
    values_agree (row_of table rtype) m n p q len size vs ws x last octets others s t shown seen

-- in each type, known or not, no field but the last takes all that is left
pub row_rest_is_last : (table : Table) (rtype : ℕ) → rests_are_last table ≡ true
    → rest_is_last (row_of table rtype) ≡ true
row_rest_is_last [] rtype last = refl
row_rest_is_last (row ∷ rows) rtype last =
    let b = both (rest_is_last row.1) (rests_are_last rows) last in
    chosen b.0 (row_rest_is_last rows rtype b.1) (nat_eq row.0 rtype)
  where
    both : (a b : Bool) → a && b ≡ true → (a ≡ true) × (b ≡ true)
    both true b h = (refl, h)
    both false b h = absurd cc

    chosen : rest_is_last row.1 ≡ true → rest_is_last (row_of rows rtype) ≡ true → (found : Bool)
        → rest_is_last (unwrap_or (if found then Some row.1 else lookup rows rtype) unknown_row) ≡ true
    chosen here behind true = here
    chosen here behind false = behind

pub one_reading : (table : Table) → rests_are_last table ≡ true → OneReading table
one_reading table last m n p q len size rtype rdata other x y octets others s t shown seen = (
  λ same. data_agree table m n p q len size rtype rdata other x (row_rest_is_last table rtype last) octets others s t
      shown (subst (λ z. canon table rtype other ≡ Ok z) (sym same) seen),
  λ agree. ok_octets x y (sym shown ∙ agreeing_have_one_form table rtype rdata other agree ∙ seen),
)
