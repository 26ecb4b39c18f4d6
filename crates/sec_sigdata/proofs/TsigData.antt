-- The data of TSIG records, written, and of equal fields.
use Rattle.std.proofs.Common.{length-append, ◌+◌, ◌≡◌, ℕ, ◌^◌, ◌<◌, false, List, [], ◌∷◌, ◌++◌, length, Some, Ok, refl}
use Rattle.std.proofs.Common.{sym, ap, ◌∙◌, arith, lt-ltb}
use Rattle.dns_wire.specs.Octets.{two_octets, six_octets}
use Rattle.dns_names.specs.Names.{wire, IsName}
use Rattle.dns_grammar.specs.Fields.{Value, fields_octets}
use Rattle.dns_grammar.specs.Laws.{AreReadBack}
use Rattle.dns_grammar.specs.Messages.{TsigData, tsig_from_values, tsig_values}
use Rattle.dns_grammar.specs.Tables.{tsig_row}
use Rattle.dns_grammar.proofs.ReadAgain.{written_row}
use Rattle.sec_sigdata.specs.TsigAlgorithms.{algorithm_name, tsig_algorithm_named}
use Rattle.sec_sigdata.specs.TsigErrors.{optional_error_number, optional_error}
use Rattle.sec_sigdata.specs.TsigRecords.{TsigFields, TsigFits, TsigIsByNumber, fields_data}

-- the fields of the data, one behind the other
abbrev pub data_octets : TsigData → List ℕ
data_octets tsig =
    wire tsig.algorithm
    ++ (six_octets tsig.time
    ++ (two_octets tsig.fudge
    ++ ((two_octets (length tsig.mac) ++ tsig.mac)
    ++ (two_octets tsig.oid
    ++ (two_octets tsig.error
    ++ ((two_octets (length tsig.other) ++ tsig.other) ++ []))))))

pub data_written : (canonical : _) (tsig : TsigData) → tsig.time < 2 ^ 48 → length tsig.mac < 2 ^ 16
    → length tsig.other < 2 ^ 16
    → fields_octets canonical tsig_row (tsig_values tsig) ≡ Ok (data_octets tsig)
data_written canonical tsig time mac other = rw (
  lt-ltb tsig.time (2 ^ 48) time,
  lt-ltb (length tsig.mac)
      (2 ^ 16) mac,
  lt-ltb (length tsig.other) (2 ^ 16) other,
) refl

wire_some : (n : List (List ℕ)) (x : List ℕ) → 0 < length (wire n ++ x)
wire_some [] x = omega arith
wire_some (l ∷ n) x = omega arith

data_back : (tsig : TsigData) → IsName tsig.algorithm → tsig.time < 2 ^ 48 → tsig.fudge < 2 ^ 16
    → length tsig.mac < 2 ^ 16 → tsig.oid < 2 ^ 16 → tsig.error < 2 ^ 16 → length tsig.other < 2 ^ 16
    → AreReadBack tsig_row (tsig_values tsig)
data_back tsig name time fudge mac oid error other =
    let written = data_written false tsig time mac other in (
      data_octets tsig,
      written,
      λ front back. written_row tsig_row refl (tsig_values tsig) (data_octets tsig) front back
          ((name, refl, (tt, refl, (fudge, refl, (tt, refl, (oid, refl, (error, refl, (tt, refl, tt))))))))
          (wire_some tsig.algorithm _) written,
    )

pub read_back : (tsig : TsigFields) → IsName (algorithm_name tsig.algorithm) → TsigFits tsig → tsig.fudge < 2 ^ 16
    → tsig.oid < 2 ^ 16 → optional_error_number tsig.error < 2 ^ 16
    → AreReadBack tsig_row (tsig_values (fields_data tsig))
read_back tsig name fits fudge oid error = data_back
    (fields_data tsig) name fits.time fudge fits.mac oid error fits.other

some_same : (x y : TsigData) → Some x ≡ Some y → x ≡ y
some_same x y e = cc

data_equal : (x y : TsigData) → tsig_values x ≡ tsig_values y → x ≡ y
data_equal x y same = some_same x y (ap (λ (vs : List Value). tsig_from_values (Some vs)) same)

pub tsig_equal : (x y : TsigFields) → TsigIsByNumber x → TsigIsByNumber y
    → tsig_values (fields_data x) ≡ tsig_values (fields_data y) → x ≡ y
tsig_equal x y a b same =
    let equal : fields_data x ≡ fields_data y = data_equal (fields_data x) (fields_data y) same in
    let algorithm : x.algorithm ≡ y.algorithm = a.algorithm
    ∙ (ap (λ (t : TsigData). tsig_algorithm_named t.algorithm) equal ∙ sym b.algorithm) in
    let time : x.time ≡ y.time = ap (λ (t : TsigData). t.time) equal in
    let fudge : x.fudge ≡ y.fudge = ap (λ (t : TsigData). t.fudge) equal in
    let mac : x.mac ≡ y.mac = ap (λ (t : TsigData). t.mac) equal in
    let oid : x.oid ≡ y.oid = ap (λ (t : TsigData). t.oid) equal in
    let error : x.error ≡ y.error = a.error ∙ (ap (λ (t : TsigData). optional_error t.error) equal ∙ sym b.error) in
    let other : x.other ≡ y.other = ap (λ (t : TsigData). t.other) equal in
    λ i. record {
      algorithm = algorithm i;
      time = time i;
      fudge = fudge i;
      mac = mac i;
      oid = oid i;
      error = error i;
      other = other i;
    }

-- how many octets the data have
pub data_length : (tsig : TsigData) → length (data_octets tsig)
    ≡ length (wire tsig.algorithm) + 16 + length tsig.mac + length tsig.other
data_length tsig = simp length-append (omega arith)
