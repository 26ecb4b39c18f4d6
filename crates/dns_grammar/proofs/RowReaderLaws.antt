-- A reader that answers what the reading function gives reads its data, and so does a check.
use Rattle.std.proofs.Common.{◌≡◌, ◌↔◌, ℕ, ◌+◌, ◌≤◌, List, length, Option, Result, Ok, Err, refl, sym, ap, ◌∙◌}
use Rattle.std.specs.Prelude.{IfOk, IsOk, OnOk}
use Rattle.dns_wire.specs.declared.decoder.BinDecoder.{BinDecoder}
use Rattle.dns_wire.specs.declared.error.DecodeError.{DecodeError}
use Rattle.dns_wire.specs.Reading.{octets, place, Reads, ReadsUnless}
use Rattle.dns_wire.proofs.FieldLaws.{is_ok_same}
use Rattle.dns_names.specs.Skipping.{without_value}
use Rattle.dns_types.proofs.ReaderLaws.{IsRead, found_by, only_by}
use Rattle.dns_grammar.specs.Fields.{Field, Table, Value, FieldsAt, fields_at}
use Rattle.dns_grammar.specs.RecordData.{RowAt, RDataAt, one_type_data_at, rdata_at}
use Rattle.dns_grammar.specs.RowReaders.{ReadsRow, ChecksRow, ReadsData, ChecksData}
use Rattle.dns_grammar.proofs.FieldLaws.{fields_stand, fields_read}
use Rattle.dns_grammar.proofs.DataLaws.{row_is_read, data_is_read}

-- ---- readers

pub reads_row : {X : Type 0} (fields : List Field) (values : X → List Value) (IsByNumber : X → Type 0) (len : ℕ)
    (old new : BinDecoder) (result : Result X DecodeError)
    → ReadsUnless values result old new (one_type_data_at fields (octets old) (place old) len) → IfOk result IsByNumber
    → ReadsRow fields values IsByNumber len old new result
reads_row fields values IsByNumber len old new result read by_number =
    let At : List Value → ℕ → Type 0 = λ vs q. RowAt fields (octets old) (place old) len vs × (q ≡ place old + len) in
    let is_read = row_is_read fields (octets old) (place old) len in
    record {
      exact = read;
      found = found_by At values result old new _ is_read read;
      only = λ vs stands. only_by At values result old new _ is_read read vs (place old + len) (stands, refl);
      by_number = by_number;
    }

-- the same for a row without codes
pub reads_plain_row : {X : Type 0} (fields : List Field) (values : X → List Value) (len : ℕ) (old new : BinDecoder)
    (result : Result X DecodeError)
    → ReadsUnless values result old new (one_type_data_at fields (octets old) (place old) len)
    → ReadsRow fields values (λ _. Unit {0}) len old new result
reads_plain_row fields values len old new (Ok x) read =
    reads_row fields values (λ _. Unit {0}) len old new (Ok x) read tt
reads_plain_row fields values len old new (Err e) read =
    reads_row fields values (λ _. Unit {0}) len old new (Err e) read tt

pub reads_data : {X : Type 0} (table : Table) (shown : X → Option (List Value)) (IsByNumber : X → Type 0)
    (rtype len : ℕ) (old new : BinDecoder) (result : Result X DecodeError)
    → ReadsUnless shown result old new (rdata_at table (octets old) (place old) len rtype) → IfOk result IsByNumber
    → ReadsData table shown IsByNumber rtype len old new result
reads_data table shown IsByNumber rtype len old new result read by_number =
    let At : Option (List Value) → ℕ → Type 0 = λ rdata q. RDataAt table (octets old) (place old) len rtype rdata
    × (q ≡ place old + len) in
    let is_read = data_is_read table (octets old) (place old) len rtype in
    record {
      exact = read;
      found = found_by At shown result old new _ is_read read;
      only = λ rdata stands. only_by At shown result old new _ is_read read rdata (place old + len) (stands, refl);
      by_number = by_number;
    }

-- ---- checks

-- a value that was left out
left_out : {Y : Type 0} (given : Result (Y × ℕ) DecodeError) (x : Unit {0}) (q : ℕ) → without_value given ≡ Ok (x, q)
    → (y : Y) × (given ≡ Ok (y, q))
left_out (Ok y) x q h = (y.0, ap (λ k. Ok (y.0, k)) (ap (λ z. z.1) (is_ok_same (tt, y.1) (x, q) h)))
left_out (Err e) x q h = absurd cc

-- what is let through stands there, and what follows of it holds
found_checked : {Y : Type 0} (At : Y → ℕ → Type 0) (P : Type 0) (result : Result (Unit {0}) DecodeError)
    (old new : BinDecoder) (given : Result (Y × ℕ) DecodeError)
    → IsRead At given → ((y : Y) → At y (place new) → P) → Reads (λ x. x) result old new (without_value given)
    → OnOk result P
found_checked At P (Ok x) old new given is_read follows read =
    let value = left_out given x (place new) read.0 in
    follows value.0 ((is_read value.0 (place new)).0 value.1)
found_checked At P (Err e) old new given is_read follows read = tt

-- what stands there is let through, and its end is where the decoder goes
only_checked : {Y : Type 0} (At : Y → ℕ → Type 0) (result : Result (Unit {0}) DecodeError) (old new : BinDecoder)
    (given : Result (Y × ℕ) DecodeError)
    → IsRead At given → Reads (λ x. x) result old new (without_value given) → (y : Y) (q : ℕ) → At y q
    → IsOk result × (place new ≡ q)
only_checked At (Ok x) old new given is_read read y q stands =
    (refl, ap (λ z. z.1) (is_ok_same (x, place new) (tt, q) (sym read.0 ∙ ap without_value ((is_read y q).1 stands))))
only_checked At (Err e) old new given is_read read y q stands =
    absurd (cc (sym read.0 ∙ ap without_value ((is_read y q).1 stands)))

-- fields are read exactly where they stand
fields_are_read : (fields : List Field) (m : List ℕ) (p e : ℕ) → e ≤ length m
    → IsRead (FieldsAt fields m p e) (fields_at fields m p e)
fields_are_read fields m p e within vs q = (fields_stand fields m p e vs q within, fields_read fields m p e vs q)

module _ (fields : List Field) (e : ℕ) (old new : BinDecoder) (result : Result (Unit {0}) DecodeError)
    (within : e ≤ length (octets old))
    (read : Reads (λ x. x) result old new (without_value (fields_at fields (octets old) (place old) e))) where
  pub fields_found : OnOk result ((vs : List Value) × FieldsAt fields (octets old) (place old) e vs (place new))
  fields_found = found_checked (FieldsAt fields (octets old) (place old) e) _ result old new _
      (fields_are_read fields (octets old) (place old) e within) (λ vs stands. (vs, stands)) read

  pub fields_only : (vs : List Value) (q : ℕ) → FieldsAt fields (octets old) (place old) e vs q
      → IsOk result × (place new ≡ q)
  fields_only = only_checked (FieldsAt fields (octets old) (place old) e) result old new _
      (fields_are_read fields (octets old) (place old) e within) read

pub checks_row : (fields : List Field) (len : ℕ) (old new : BinDecoder) (result : Result (Unit {0}) DecodeError)
    → Reads (λ x. x) result old new (without_value (one_type_data_at fields (octets old) (place old) len))
    → ChecksRow fields len old new result
checks_row fields len old new result read =
    let At : List Value → ℕ → Type 0 = λ vs q. RowAt fields (octets old) (place old) len vs × (q ≡ place old + len) in
    let is_read = row_is_read fields (octets old) (place old) len in
    record {
      exact = read;
      found = found_checked At _ result old new _ is_read (λ vs stands. (vs, stands.0, stands.1)) read;
      only = λ vs stands. (only_checked At result old new _ is_read read vs (place old + len) (stands, refl)).0;
    }

pub checks_data : (table : Table) (rtype len : ℕ) (old new : BinDecoder) (result : Result (Unit {0}) DecodeError)
    → Reads (λ x. x) result old new (without_value (rdata_at table (octets old) (place old) len rtype))
    → ChecksData table rtype len old new result
checks_data table rtype len old new result read =
    let At : Option (List Value) → ℕ → Type 0 = λ rdata q. RDataAt table (octets old) (place old) len rtype rdata
    × (q ≡ place old + len) in
    let is_read = data_is_read table (octets old) (place old) len rtype in
    record {
      exact = read;
      found = found_checked At _ result old new _ is_read (λ rdata stands. (rdata, stands.0, stands.1)) read;
      only = λ rdata stands. (only_checked At result old new _ is_read read rdata (place old + len) (stands, refl)).0;
    }
