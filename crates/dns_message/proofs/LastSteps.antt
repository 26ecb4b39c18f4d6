-- The last additional record, as a transaction signature.
use Rattle.std.proofs.Common.{◌≡◌, ℕ, ◌+◌, Bool, true, false, cond, eqb, ltb, ◌&&◌, not, List, length, Option, Some}
use Rattle.std.proofs.Common.{None, option_map, Result, Ok, Err, refl, sym, ap, subst, ◌∙◌}
use Rattle.std.specs.Option.{ForSome}
use Rattle.std.proofs.lemmas.Map.Views.{exact_unsigned_eq}
use Rattle.dns_wire.specs.declared.error.DecodeError.{DecodeError}
use Rattle.dns_wire.specs.declared.error.DecodeError.TheVariants.{InsufficientBytes}
use Rattle.dns_wire.specs.Reading.{◌>>=◌}
use Rattle.dns_grammar.specs.Fields.{Field, Value}
use Rattle.dns_grammar.specs.RecordData.{tsig_type, fields_filling, one_type_data_at, rdata_at}
use Rattle.dns_grammar.specs.Tables.{tsig_row}
use Rattle.dns_rdata.specs.RDataTable.{rdata_table}
use Rattle.dns_grammar.specs.Messages.{RecordHead, ResourceRecord, TsigData, Signature, tsig_values, tsig_from_values}
use Rattle.dns_grammar.specs.Messages.{with_data, signature_with, head_at, record_at}
use Rattle.dns_message.specs.Views.{as_signature}

same_value : {A : Type 0} (x y : A) → Some x ≡ Some y → x ≡ y
same_value x y e = cc

pub for_some : {A : Type 0} (P : A → Type 0) (y : A) → P y → ForSome (Some y) P
for_some P y h x e = subst P (same_value y x e) h

-- where data of this length end
abbrev pub data_end_at : List ℕ → ℕ → ℕ → Result ℕ DecodeError
data_end_at m p len = cond (ltb (length m) (p + len)) (Err InsufficientBytes)
    (cond (eqb len 0) (Err InsufficientBytes) (Ok (p + len)))

abbrev filled : List Field → List ℕ → ℕ → ℕ → Result (List Value × ℕ) DecodeError
filled fields m p end = fields_filling fields m p end >>= λ values. Ok (values, end)

-- the data of one type, by where they end
by_end : (fields : List Field) (m : List ℕ) (p len : ℕ)
    → one_type_data_at fields m p len ≡ (data_end_at m p len >>= filled fields m p)
unfolding one_type_data_at
by_end fields m p len = go (ltb (length m) (p + len)) (eqb len 0)
  where
    go : (short none : Bool) → cond short (Err InsufficientBytes)
        (cond none (Err InsufficientBytes) (filled fields m p (p + len)))
        ≡ (cond short (Err InsufficientBytes) (cond none (Err InsufficientBytes) (Ok (p + len))) >>= filled fields m p)
    go true none = refl
    go false true = refl
    go false false = refl

abbrev with_values : RecordHead → List Value × ℕ → Result (Option Signature × ℕ) DecodeError
with_values h values = Ok (
  option_map (signature_with (with_data h (Some values.0)))
      (tsig_from_values (Some values.0)),
  values.1,
)

abbrev as_tsig : RecordHead → Option (List Value) × ℕ → Result (ResourceRecord × ℕ) DecodeError
as_tsig h rdata = Ok (record (with_data h rdata.0) { rtype = tsig_type }, rdata.1)

abbrev some_data : Result (List Value × ℕ) DecodeError → Result (Option (List Value) × ℕ) DecodeError
some_data read = read >>= λ values. Ok (Some values.0, values.1)

-- data of type TSIG are not empty
never_empty : (h : RecordHead) (r : ℕ) (none : Bool) (read : Result (List Value × ℕ) DecodeError)
    → as_signature (cond (none && false) (Ok (None, r)) (some_data read) >>= as_tsig h) ≡ (read >>= with_values h)
never_empty h r true (Ok x) = refl
never_empty h r true (Err e) = refl
never_empty h r false (Ok x) = refl
never_empty h r false (Err e) = refl

-- a record of type TSIG, as the last additional
tsig_last : (m : List ℕ) (p : ℕ) (h : RecordHead) (r : ℕ) → head_at m p ≡ Ok (h, r) → h.rtype ≡ tsig_type
    → as_signature (record_at rdata_table true m p)
    ≡ ((data_end_at m r h.data_length >>= filled tsig_row m r) >>= with_values h)
unfolding record_at rdata_at
tsig_last m p h r head is =
    rw (head, is) (never_empty h r (eqb h.data_length 0) (one_type_data_at tsig_row m r h.data_length))
    ∙ ap (λ read. read >>= with_values h) (by_end tsig_row m r h.data_length)

-- too few octets for its data, or none
pub last_short : (m : List ℕ) (p : ℕ) (h : RecordHead) (r : ℕ) (fault : DecodeError) → head_at m p ≡ Ok (h, r)
    → h.rtype ≡ tsig_type
    → data_end_at m r h.data_length ≡ Err fault → as_signature (record_at rdata_table true m p) ≡ Err fault
last_short m p h r fault head is end = tsig_last m p h r head is
    ∙ ap (λ read. (read >>= filled tsig_row m r) >>= with_values h) end

-- data that are none
pub last_fails : (m : List ℕ) (p : ℕ) (h : RecordHead) (r e : ℕ) (fault : DecodeError) → head_at m p ≡ Ok (h, r)
    → h.rtype ≡ tsig_type
    → data_end_at m r h.data_length ≡ Ok e → fields_filling tsig_row m r e ≡ Err fault
    → as_signature (record_at rdata_table true m p) ≡ Err fault
last_fails m p h r e fault head is end fails =
    tsig_last m p h r head is ∙ ap (λ read. (read >>= filled tsig_row m r) >>= with_values h) end
    ∙ ap (λ read. (read >>= λ values. with_end values e) >>= with_values h) fails
  where
    with_end : List Value → ℕ → Result (List Value × ℕ) DecodeError
    with_end values e = Ok (values, e)

-- a transaction signature
pub last_signed : (m : List ℕ) (p : ℕ) (h : RecordHead) (r e : ℕ) (tsig : TsigData) → head_at m p ≡ Ok (h, r)
    → h.rtype ≡ tsig_type
    → data_end_at m r h.data_length ≡ Ok e → fields_filling tsig_row m r e ≡ Ok (tsig_values tsig)
    → as_signature (record_at rdata_table true m p)
    ≡ Ok (Some (record { start = h.start; name = h.name; tsig = tsig }), e)
last_signed m p h r e tsig head is end row =
    tsig_last m p h r head is ∙ ap (λ read. (read >>= filled tsig_row m r) >>= with_values h) end
    ∙ ap (λ read. (read >>= λ values. with_end values e) >>= with_values h) row
  where
    with_end : List Value → ℕ → Result (List Value × ℕ) DecodeError
    with_end values e = Ok (values, e)

-- where the data end is not before their place
pub end_behind : (m : List ℕ) (p len e : ℕ) → data_end_at m p len ≡ Ok e → e ≡ p + len
end_behind m p len e is = go (ltb (length m) (p + len)) (eqb len 0) is
  where
    go : (short none : Bool) → cond short (Err InsufficientBytes)
        (cond none (Err InsufficientBytes) (let ok : Result ℕ DecodeError = Ok (p + len) in ok)) ≡ Ok e → e ≡ p + len
    go true none is = absurd cc
    go false true is = absurd cc
    go false false is = cc

-- what `!=` says of two numbers where it doesn't hold
pub same_type : (differ : Bool) (a b : ℕ) → differ ≡ false → differ ≡ not (eqb a b) → a ≡ b
same_type differ a b false_is is = exact_unsigned_eq a b (back (eqb a b) (sym is ∙ false_is))
  where
    back : (b : Bool) → not b ≡ false → b ≡ true
    back true e = refl
    back false e = sym e
