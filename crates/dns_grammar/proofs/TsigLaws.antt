-- The last additional of type TSIG has seven values.
use Rattle.std.proofs.Common.{◌≡◌, ℕ, ◌+◌, true, eqb, List, [], ◌∷◌, Option, Some, None, option_and_then, refl, ap}
use Rattle.std.proofs.Common.{subst, ◌∙◌, eq-eqb}
use Rattle.dns_wire.specs.declared.error.EmitError.{EmitError}
use Rattle.dns_wire.specs.declared.error.EmitError.TheVariants.{MacTooLong, OtherTooLong}
use Rattle.dns_grammar.specs.Fields.{Size, Two, Number, Time, Counted, KeptName, Value, Num, Str, Named, Table, row_of}
use Rattle.dns_grammar.specs.Fields.{ValueAt, FieldsAt}
use Rattle.dns_grammar.specs.RecordData.{tsig_type, RDataAt}
use Rattle.dns_grammar.specs.Tables.{IsTable, tsig_row}
use Rattle.dns_grammar.specs.Messages.{ResourceRecord, RecordAt, TsigData, tsig_values, signature_with, signature_from}
use Rattle.dns_grammar.specs.Laws.{SignatureIsWhole}
use Rattle.dns_grammar.proofs.EachLaws.{each_last}

is_name : (m : List ℕ) (p e : ℕ) (v : Value) (q : ℕ) → ValueAt KeptName m p e v q → (n : List (List ℕ)) × (v ≡ Named n)
is_name m p e (Named n) q s = (n, refl)
is_name m p e _ q s = absurd s

is_time : (m : List ℕ) (p e : ℕ) (v : Value) (q : ℕ) → ValueAt Time m p e v q → (n : ℕ) × (v ≡ Num n)
is_time m p e (Num n) q s = (n, refl)
is_time m p e _ q s = absurd s

is_number : (size : Size) (m : List ℕ) (p e : ℕ) (v : Value) (q : ℕ) → ValueAt (Number size) m p e v q
    → (n : ℕ) × (v ≡ Num n)
is_number size m p e (Num n) q s = (n, refl)
is_number size m p e _ q s = absurd s

is_counted : (size : Size) (too_long : EmitError) (m : List ℕ) (p e : ℕ) (v : Value) (q : ℕ)
    → ValueAt (Counted size too_long) m p e v q → (x : List ℕ) × (v ≡ Str x)
is_counted size too_long m p e (Str x) q s = (x, refl)
is_counted size too_long m p e _ q s = absurd s

seven : (m : List ℕ) (p e : ℕ) (vs : List Value) (q : ℕ) → FieldsAt tsig_row m p e vs q
    → (tsig : TsigData) × (vs ≡ tsig_values tsig)
seven m p e (a ∷ b ∷ c ∷ d ∷ f ∷ g ∷ h ∷ []) q s =
    let algorithm = is_name m p e a s.0 s.1 in
    let time = is_time m s.0 e b s.3.0 s.3.1 in
    let fudge = is_number Two m s.3.0 e c s.3.3.0 s.3.3.1 in
    let mac = is_counted Two MacTooLong m s.3.3.0 e d s.3.3.3.0 s.3.3.3.1 in
    let oid = is_number Two m s.3.3.3.0 e f s.3.3.3.3.0 s.3.3.3.3.1 in
    let error = is_number Two m s.3.3.3.3.0 e g s.3.3.3.3.3.0 s.3.3.3.3.3.1 in
    let other = is_counted Two OtherTooLong m s.3.3.3.3.3.0 e h s.3.3.3.3.3.3.0 s.3.3.3.3.3.3.1 in (
      record {
        algorithm = algorithm.0;
        time = time.0;
        fudge = fudge.0;
        mac = mac.0;
        oid = oid.0;
        error = error.0;
        other = other.0;
      },
      λ i. algorithm.1 i ∷ time.1 i ∷ fudge.1 i ∷ mac.1 i ∷ oid.1 i ∷ error.1 i ∷ other.1 i ∷ [],
    )
seven m p e [] q s = absurd s
seven m p e (a ∷ []) q s = absurd s.3
seven m p e (a ∷ b ∷ []) q s = absurd s.3.3
seven m p e (a ∷ b ∷ c ∷ []) q s = absurd s.3.3.3
seven m p e (a ∷ b ∷ c ∷ d ∷ []) q s = absurd s.3.3.3.3
seven m p e (a ∷ b ∷ c ∷ d ∷ f ∷ []) q s = absurd s.3.3.3.3.3
seven m p e (a ∷ b ∷ c ∷ d ∷ f ∷ g ∷ []) q s = absurd s.3.3.3.3.3.3
seven m p e (a ∷ b ∷ c ∷ d ∷ f ∷ g ∷ h ∷ i ∷ vs) q s = absurd s.3.3.3.3.3.3.3

data_seven : (table : Table) (m : List ℕ) (p len rtype : ℕ) (rdata : Option (List Value)) → IsTable table
    → rtype ≡ tsig_type → RDataAt table m p len rtype rdata → (tsig : TsigData) × (rdata ≡ Some (tsig_values tsig))
data_seven table m p len rtype None known is s = absurd (s.not_tsig is)
data_seven table m p len rtype (Some vs) known is s =
    let row : row_of table rtype ≡ tsig_row = ap (row_of table) is ∙ known.tsig in
    let v = seven m p (p + len) vs (p + len) (subst (λ fs. FieldsAt fs m p (p + len) vs (p + len)) row s.filled) in
    (v.0, ap (λ (y : List Value). Some y) v.1)

pub signature_is : (rr : ResourceRecord) (tsig : TsigData) → rr.rtype ≡ tsig_type → rr.rdata ≡ Some (tsig_values tsig)
    → signature_from rr ≡ Some (signature_with rr tsig)
signature_is rr tsig is values = let same : eqb rr.rtype tsig_type
    ≡ true = eq-eqb rr.rtype tsig_type is in rw (same, values) refl

pub signature_whole : (table : Table) → IsTable table → SignatureIsWhole table
signature_whole table known m message e rr s last is =
    let r = (each_last (RecordAt table m) s.additionals_start message.additionals rr e last s.additionals).2 in
    let v = data_seven table m (r.fixed + 10) r.data_length rr.rtype rr.rdata known is r.rdata in
    (v.0, v.1, ap (option_and_then signature_from) last ∙ signature_is rr v.0 is v.1)
