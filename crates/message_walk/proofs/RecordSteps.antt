-- The record that stands at a place, by what stands before its data.
use Rattle.std.proofs.Common.{◌≡◌, ◌≢◌, inl, ℕ, zero, suc, ◌+◌, ◌-◌, ◌≤◌, ◌<◌, Bool, true, false, cond, eqb, ltb, List, []}
use Rattle.std.proofs.Common.{length, Option, Some, None, Result, Ok, Err, refl, sym, ap, subst, ◌∙◌, arith}
use Rattle.std.specs.Prelude.{IsOk}
use Rattle.std.specs.Result.{result_unwrap_or}
use Rattle.std.proofs.lemmas.Bool.{le-leb, le-ltb, ne_eqb}
use Rattle.dns_wire.specs.declared.error.DecodeError.{DecodeError}
use Rattle.dns_wire.specs.declared.error.DecodeError.TheVariants.{InsufficientBytes}
use Rattle.dns_wire.specs.declared.error.EmitError.{EmitError}
use Rattle.dns_wire.specs.declared.error.EmitError.TheVariants.{DataTooLong}
use Rattle.dns_wire.specs.Reading.{◌>>=◌}
use Rattle.dns_wire.proofs.FieldLaws.{is_ok_same}
use Rattle.dns_names.specs.Places.{name_at}
use Rattle.dns_names.specs.Skipping.{without_value}
use Rattle.dns_names.proofs.PlaceLaws.{read_labels-octet}
use Rattle.dns_grammar.specs.Fields.{Value, row_of, fields_octets}
use Rattle.dns_grammar.specs.RecordData.{RDataAt, rdata_at, canon, fitting}
use Rattle.dns_grammar.specs.Messages.{RecordHead, ResourceRecord, head_at, placed, with_data, record_at}
use Rattle.dns_grammar.proofs.DataLaws.{rdata_stands}
use Rattle.dns_grammar.proofs.FieldLaws.{fields_read}
use Rattle.dns_grammar.proofs.HeadLaws.{ok_placed}
use Rattle.dns_message.specs.declared.section.Section.{Section}
use Rattle.dns_message.specs.Views.{map_head}
use Rattle.dns_rdata.specs.RDataTable.{rdata_table}
use Rattle.message_walk.specs.declared.data_error.DataError.{DataError}
use Rattle.message_walk.specs.declared.data_error.DataError.TheVariants.{DataTooLong as TooLong}
use Rattle.message_walk.specs.Copies.{Puts, canonical_from, data_behind, put, type_and_length}
use Rattle.message_walk.specs.Places.{data_at, data_of, if_short, record_end, record_from}
use Rattle.message_walk.specs.Walks.{read_place}
use Rattle.message_walk.specs.declared.record_place.RecordPlace.{RecordPlace}

-- ---- a place past the end

no_name_past : (m : List ℕ) (p : ℕ) → length m ≤ p → name_at m p (length m) ≡ Err InsufficientBytes
unfolding name_at
no_name_past m p le = read_labels-octet m p p (length m) 1 (omega arith) ∙ rw (le-leb (length m) p le) refl

pub no_head_past : {X : Type 0} (view : RecordHead → X) (m : List ℕ) (p : ℕ) → length m < p
    → map_head view (head_at m p) ≡ Err InsufficientBytes
unfolding head_at
no_head_past view m p lt = let le : length m ≤ p = omega arith in rw (no_name_past m p le) refl

-- ---- what stands before the data

-- a record of these data, and the place behind them
abbrev of_data : RecordHead → Result (Option (List Value) × ℕ) DecodeError → Result (ResourceRecord × ℕ) DecodeError
of_data head read = read >>= λ rdata. Ok (with_data head rdata.0, rdata.1)

-- a record of any type may be the last
abbrev placed_data : RecordHead → Result (Option (List Value) × ℕ) DecodeError
    → Result (ResourceRecord × ℕ) DecodeError
placed_data head read = placed true head.rtype >>= λ _. of_data head read

any_type : (head : RecordHead) (read : Result (Option (List Value) × ℕ) DecodeError)
    → placed_data head read ≡ of_data head read
any_type head read = ap (λ test. test >>= λ _. of_data head read) (ok_placed true head.rtype (inl refl))

-- the data behind a head are skipped
abbrev data_skipped : List ℕ → (ℕ × ℕ) × ℕ → Result (Unit {0} × ℕ) DecodeError
data_skipped m head = without_value (rdata_at rdata_table m head.1 head.0.1 head.0.0)

-- what is skipped of a record
record_skipped : (m : List ℕ) (p : ℕ)
    → without_value (record_from m p) ≡ (map_head type_and_length (head_at m p) >>= data_skipped m)
unfolding record_at
record_skipped m p = go (head_at m p)
  where
    forget : (head : RecordHead) (read : Result (Option (List Value) × ℕ) DecodeError)
        → without_value (of_data head read) ≡ without_value read
    forget head (Ok x) = refl
    forget head (Err fault) = refl

    go : (r : Result (RecordHead × ℕ) DecodeError)
        → without_value (r >>= λ head. placed_data head.0 (rdata_at rdata_table m head.1 head.0.data_length
        head.0.rtype))
        ≡ (map_head type_and_length r >>= data_skipped m)
    go (Ok head) =
        ap without_value (any_type head.0 (rdata_at rdata_table m head.1 head.0.data_length head.0.rtype))
        ∙ forget head.0 (rdata_at rdata_table m head.1 head.0.data_length head.0.rtype)
    go (Err fault) = refl

pub no_head_skipped : (m : List ℕ) (p : ℕ) (fault : DecodeError) → map_head type_and_length (head_at m p) ≡ Err fault
    → without_value (record_from m p) ≡ Err fault
no_head_skipped m p fault h = record_skipped m p ∙ ap (λ head. head >>= data_skipped m) h

pub skipped_behind : (m n : List ℕ) (p t len q k : ℕ) (given : Result (Unit {0} × ℕ) DecodeError)
    → map_head type_and_length (head_at m p) ≡ Ok ((t, len), q) → n ≡ m → k ≡ q
    → without_value (rdata_at rdata_table n k len t) ≡ given → without_value (record_from m p) ≡ given
skipped_behind m n p t len q k given h same from d =
    record_skipped m p ∙ ap (λ head. head >>= data_skipped m) h
    ∙ sym (λ i. without_value (rdata_at rdata_table (same i) (from i) len t)) ∙ d

-- what was skipped was read
pub is_skipped : {A : Type 0} (read : Result (A × ℕ) DecodeError) (q : ℕ) → without_value read ≡ Ok (tt, q) → IsOk read
is_skipped (Ok x) q h = refl
is_skipped (Err fault) q h = absurd cc

pub not_skipped : {A : Type 0} (read : Result (A × ℕ) DecodeError) (fault : DecodeError) → without_value read ≡ Err fault
    → read ≡ Err fault
not_skipped (Ok x) fault h = absurd cc
not_skipped (Err d) fault h = cc

-- what is a fault was not read
not_ok : {A : Type 0} (read : Result A DecodeError) (fault : DecodeError) → read ≡ Err fault → IsOk read → ⊥
not_ok (Ok x) fault e is = cc
not_ok (Err d) fault e is = cc

-- ---- the data of a record that stands

-- a record, its head and its data
pub record HasRecord (m : List ℕ) (p : ℕ) : Type 0 where
  pub head : RecordHead
  pub fixed : ℕ
  pub rdata : Option (List Value)
  pub end : ℕ
  pub head_is : head_at m p ≡ Ok (head, fixed)
  pub rdata_is : rdata_at rdata_table m fixed head.data_length head.rtype ≡ Ok (rdata, end)
  pub record_is : record_from m p ≡ Ok (with_data head rdata, end)

pub has_record : (m : List ℕ) (p : ℕ) → IsOk (record_from m p) → HasRecord m p
unfolding record_at
has_record m p is = go (head_at m p) refl
  where
    with_rdata : (head : RecordHead) (q : ℕ) (r : Result (Option (List Value) × ℕ) DecodeError)
        → head_at m p ≡ Ok (head, q) → rdata_at rdata_table m q head.data_length head.rtype ≡ r → HasRecord m p
    with_rdata head q (Ok x) h d = record {
      head = head;
      fixed = q;
      rdata = x.0;
      end = x.1;
      head_is = h;
      rdata_is = d;
      record_is = rw (h, ok_placed true head.rtype (inl refl), d) refl;
    }
    with_rdata head q (Err fault) h d =
        absurd (not_ok (record_from m p) fault (rw (h, ok_placed true head.rtype (inl refl), d) refl) is)

    go : (r : Result (RecordHead × ℕ) DecodeError) → head_at m p ≡ r → HasRecord m p
    go (Ok x) h = with_rdata x.0 x.1 (rdata_at rdata_table m x.1 x.0.data_length x.0.rtype) h refl
    go (Err fault) h = absurd (not_ok (record_from m p) fault (rw h refl) is)

-- data end within the octets
pub rdata_within : (m : List ℕ) (p len rtype : ℕ) (rdata : Option (List Value))
    → RDataAt rdata_table m p len rtype rdata → p + len ≤ length m
rdata_within m p len rtype None s = omega (arith, s.empty, s.within)
rdata_within m p len rtype (Some values) s = s.within

-- its head is what was map_head
record HasType (head : RecordHead) (fixed t n q : ℕ) : Type 0 where
  pub rtype : head.rtype ≡ t
  pub len : head.data_length ≡ n
  pub place : fixed ≡ q

has_type : (m : List ℕ) (p t n q : ℕ) (r : HasRecord m p) → map_head type_and_length (head_at m p) ≡ Ok ((t, n), q)
    → HasType r.head r.fixed t n q
has_type m p t n q r h =
    let same = is_ok_same ((r.head.rtype, r.head.data_length), r.fixed) ((t, n), q)
    (sym (ap (map_head type_and_length) r.head_is) ∙ h) in
    record {
      rtype = ap (λ (x : (ℕ × ℕ) × ℕ). x.0.0) same;
      len = ap (λ (x : (ℕ × ℕ) × ℕ). x.0.1) same;
      place = ap (λ (x : (ℕ × ℕ) × ℕ). x.1) same;
    }

-- data that stand behind a head that was map_head
record HasData (m : List ℕ) (p t n q : ℕ) : Type 0 where
  pub rdata : Option (List Value)
  pub stands : RDataAt rdata_table m q n t rdata
  pub data_is : data_at m p ≡ if_short (canon rdata_table t rdata)

has_data : (m : List ℕ) (p t n q : ℕ) → IsOk (record_from m p) → map_head type_and_length (head_at m p) ≡ Ok ((t, n), q)
    → HasData m p t n q
has_data m p t n q is h =
    let r = has_record m p is in
    let y = has_type m p t n q r h in
    let stands = rdata_stands rdata_table m r.fixed r.head.data_length r.head.rtype r.rdata r.end r.rdata_is in
    record {
      rdata = r.rdata;
      stands = subst (λ (k : ℕ). RDataAt rdata_table m q n k r.rdata) y.rtype
          (subst (λ (k : ℕ). RDataAt rdata_table m q k r.head.rtype r.rdata) y.len
          (subst (λ (k : ℕ). RDataAt rdata_table m k r.head.data_length r.head.rtype r.rdata) y.place stands.0));
      data_is = ap data_of r.record_is ∙ ap (λ k. if_short (canon rdata_table k r.rdata)) y.rtype;
    }

-- octets that fit, or none
put_first : (octets : Result (List ℕ) EmitError) → if_short (fitting octets) ≡ put [] octets
put_first (Ok x) = go (ltb 65535 (length x))
  where
    go : (b : Bool) → if_short (cond b (Err DataTooLong) (Ok x)) ≡ cond b (Err TooLong) (Ok x)
    go true = refl
    go false = refl
put_first (Err cause) = refl

no_data : (m : List ℕ) (t q : ℕ) (rdata : Option (List Value)) → RDataAt rdata_table m q 0 t rdata
    → if_short (canon rdata_table t rdata) ≡ Ok []
no_data m t q None s = refl
no_data m t q (Some values) s = absurd (omega (arith, s.nonempty))

some_data : (m : List ℕ) (t n q : ℕ) (rdata : Option (List Value)) → n ≢ 0 → RDataAt rdata_table m q n t rdata
    → (if_short (canon rdata_table t rdata) ≡ put [] (canonical_from (row_of rdata_table t) m q (q + n)))
    × (q + n ≤ length m)
unfolding canonical_from
some_data m t n q None some s = absurd (some s.empty)
some_data m t n q (Some values) some s =
    let row = row_of rdata_table t in
    let read = fields_read row m q (q + n) values (q + n) s.filled in
    (rw read (put_first (fields_octets true row values)), s.within)

pub is_behind : (m : List ℕ) (p t n q : ℕ) → IsOk (record_from m p)
    → map_head type_and_length (head_at m p) ≡ Ok ((t, n), q) → data_at m p ≡ data_behind t n m q
is_behind m p t n q is h = let x = has_data m p t n q is h in x.data_is ∙ go n x.rdata x.stands
  where
    go : (k : ℕ) (rdata : Option (List Value)) → RDataAt rdata_table m q k t rdata
        → if_short (canon rdata_table t rdata) ≡ data_behind t k m q
    go zero rdata s = no_data m t q rdata s
    go (suc k) rdata s =
        let y = some_data m t (suc k) q rdata (omega arith) s in
        let inside : q + suc k ≤ length m = y.1 in
        let test : ltb (length m) (q + suc k) ≡ false = le-ltb _ _ inside in
        let some : eqb (suc k) 0 ≡ false = ne_eqb (suc k) 0 (omega arith) in
        rw (some, test) y.0

-- the same at a decoder
pub copied_behind : (m n : List ℕ) (p t len q k : ℕ) (result : Result (Unit {0}) DataError) (held : List ℕ)
    → IsOk (record_from m p) → map_head type_and_length (head_at m p) ≡ Ok ((t, len), q) → n ≡ m → k ≡ q
    → Puts result held (data_behind t len n k) → Puts result held (data_at m p)
copied_behind m n p t len q k result held is h same from puts =
    subst (Puts result held) ((λ i. data_behind t len (same i) (from i)) ∙ sym (is_behind m p t len q is h)) puts

-- where a record stands, by its head
pub record StandsBehind (m : List ℕ) (p t n q : ℕ) : Type 0 where
  pub end : record_end m p ≡ q + n
  pub inside : q + n ≤ length m
  pub place : (section : Section) → read_place section p (record_from m p)
      ≡ record { start = p; length = q + n - p; section = section; rtype = t }

pub stands_behind : (m : List ℕ) (p t n q : ℕ) → IsOk (record_from m p)
    → map_head type_and_length (head_at m p) ≡ Ok ((t, n), q) → StandsBehind m p t n q
stands_behind m p t n q is h =
    let r = has_record m p is in
    let y = has_type m p t n q r h in
    let stands = rdata_stands rdata_table m r.fixed r.head.data_length r.head.rtype r.rdata r.end r.rdata_is in
    let end : r.end ≡ q + n = stands.1 ∙ (λ i. y.place i + y.len i) in
    let within = rdata_within m r.fixed r.head.data_length r.head.rtype r.rdata stands.0 in
    record {
      end = ap (λ read. result_unwrap_or (read >>= λ x. Ok x.1) p) r.record_is ∙ end;
      inside = omega (arith, within, y.place, y.len);
      place = λ section. ap (read_place section p) r.record_is
          ∙ (λ i. record { start = p; length = end i - p; section = section; rtype = y.rtype i });
    }

-- the same, from the place where it starts and that of its data
module _ (m : List ℕ) (p t n q start at : ℕ) (s : StandsBehind m p t n q) where
  pub found_end : at ≡ q → at + n ≡ record_end m p
  found_end to = ap (λ (k : ℕ). k + n) to ∙ sym s.end

  pub found_place : (section : Section) → start ≡ p → at ≡ q
      → ◌≡◌ {A = Option RecordPlace}
      (Some (record { start = start; length = at + n - start; section = section; rtype = t }))
      (Some (read_place section p (record_from m p)))
  found_place section from to =
      (λ i. Some (record { start = from i; length = to i + n - from i; section = section; rtype = t }))
      ∙ sym (ap (λ (x : RecordPlace). let some : Option RecordPlace = Some x in some) (s.place section))

-- a head stands before every record
pub head_stands_there : (m : List ℕ) (p : ℕ) (fault : DecodeError) → IsOk (record_from m p)
    → map_head type_and_length (head_at m p) ≡ Err fault → ⊥
head_stands_there m p fault is h =
    let r = has_record m p is in
    absurd (cc (sym (ap (map_head type_and_length) r.head_is) ∙ h))
