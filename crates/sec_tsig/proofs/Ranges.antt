-- The numbers of a TSIG record that stands in octets, and the names there, fit their fields.
use Rattle.std.proofs.Common.{◌≡◌, ℕ, ◌+◌, ◌^◌, ◌<◌, Bool, true, false, cond, eqb, List, length, take, drop}
use Rattle.std.proofs.Common.{Option, Some, None, option_map, option_and_then, refl, sym, ap, subst, ◌∙◌, arith}
use Rattle.std.specs.Int.{w16, w32, from_be_bytes}
use Rattle.std.proofs.lemmas.Bool.Decides.{Decides-eqb}
use Rattle.std.proofs.lemmas.List.{length-take, length-drop}
use Rattle.dns_wire.specs.Octets.{AreOctets}
use Rattle.dns_wire.specs.Reading.{OctetsAt, NumberAt, TimeAt, CountedAt}
use Rattle.dns_names.specs.Names.{IsName}
use Rattle.dns_names.proofs.PlaceLaws.{name_of_octets}
use Rattle.dns_grammar.specs.Fields.{FieldsAt, row_of}
use Rattle.dns_grammar.specs.RecordData.{tsig_type, RDataAt}
use Rattle.dns_grammar.specs.Tables.{tsig_row}
use Rattle.dns_grammar.specs.Messages.{ResourceRecord, Message, RecordAt, last_additional}
use Rattle.dns_grammar.specs.Messages.{tsig_from_values, tsig_values, Signature, signature_with, signature_from}
use Rattle.dns_grammar.specs.Messages.{HasTsig}
use Rattle.dns_grammar.proofs.EachLaws.{each_last}
use Rattle.dns_grammar.proofs.TsigLaws.{signature_whole}
use Rattle.dns_rdata.specs.RDataTable.{rdata_table}
use Rattle.dns_rdata.proofs.TableLaws.{tsig_known}
use Rattle.sec_tsig.proofs.Pieces.{taken, dropped, two_below, four_below}

octets_len : (n : ℕ) (m : List ℕ) (p e : ℕ) (x : List ℕ) (q : ℕ) → OctetsAt n m p e x q → length x ≡ n
octets_len n m p e x q s =
    ap (λ (l : List ℕ). length l) s.value
    ∙ omega (arith, length-take n (drop p m), length-drop p m, s.end, s.inside, s.within)

octets_are : (n : ℕ) (m : List ℕ) (p e : ℕ) (x : List ℕ) (q : ℕ) → AreOctets m → OctetsAt n m p e x q → AreOctets x
octets_are n m p e x q octets s = subst AreOctets (sym s.value) (taken n (drop p m) (dropped p m octets))

pub number_fits : (m : List ℕ) (p e n q : ℕ) → AreOctets m → NumberAt w16 m p e n q → n < 2 ^ 16
number_fits m p e n q octets s = subst (λ k. k < 2 ^ 16) (sym s.2) (two_below s.0 (octets_are 2 m p e s.0 q octets s.1))

counted_fits : (m : List ℕ) (p e : ℕ) (x : List ℕ) (q : ℕ) → AreOctets m → CountedAt w16 m p e x q → length x < 2 ^ 16
counted_fits m p e x q octets s = subst (λ k. k < 2 ^ 16) (sym (octets_len s.0 m s.1 e x q s.3))
    (number_fits m p e s.0 s.1 octets s.2)

time_fits : (m : List ℕ) (p e n q : ℕ) → AreOctets m → TimeAt m p e n q → n < 2 ^ 48
time_fits m p e n q octets s =
    let are = octets_are 6 m p e s.0 q octets s.1 in
    let high : from_be_bytes w16 (take 2 s.0) < 2 ^ 16 = two_below (take 2 s.0) (taken 2 s.0 are) in
    let behind : from_be_bytes w32 (drop 2 s.0) < 2 ^ 32 = four_below (drop 2 s.0) (dropped 2 s.0 are) in
    subst (λ k. k < 2 ^ 48) (sym s.2) (omega (arith, high, behind))

-- ---- the record of a signature

-- the last additional record is this one, with these data
pub record HasRecord (m : List ℕ) (message : Message) (s : Signature) (e : ℕ) : Type 0 where
  pub rr : ResourceRecord
  pub last : last_additional message ≡ Some rr
  pub rtype : rr.rtype ≡ tsig_type
  pub rdata : rr.rdata ≡ Some (tsig_values s.tsig)
  pub start : rr.start ≡ s.start
  pub name : rr.name ≡ s.name
  pub stands : RecordAt rdata_table m s.start rr e

of_type : (rr : ResourceRecord) (s : Signature) → signature_from rr ≡ Some s → rr.rtype ≡ tsig_type
of_type rr s e = go (eqb rr.rtype tsig_type) refl e
  where
    go : (b : Bool) → eqb rr.rtype tsig_type ≡ b
        → cond b (option_map (signature_with rr) (tsig_from_values rr.rdata)) None ≡ Some s → rr.rtype ≡ tsig_type
    go true is e = let d = Decides-eqb rr.rtype tsig_type in d.0 is
    go false is e = absurd cc

some_same : (a b : Signature) → ◌≡◌ {A = Option Signature} (Some a) (Some b) → a ≡ b
some_same a b e = cc

pub record_of : (m : List ℕ) (message : Message) (s : Signature) (e : ℕ) → HasTsig rdata_table m message s e
    → HasRecord m message s e
record_of m message s e has = go (last_additional message) refl has.is_last
  where
    go : (last : Option ResourceRecord) → last_additional message ≡ last → option_and_then signature_from last ≡ Some s
        → HasRecord m message s e
    go None is from = absurd cc
    go (Some rr) is from =
        let rtype = of_type rr s from in
        let whole = signature_whole rdata_table tsig_known m message e rr has.stands is rtype in
        let same : signature_with rr whole.0 ≡ s = some_same _ _ (sym whole.2 ∙ has.is_last) in
        let at = (each_last (RecordAt rdata_table m) has.stands.additionals_start message.additionals rr e is
        has.stands.additionals).2 in
        let start : rr.start ≡ s.start = ap (λ (x : Signature). x.start) same in
        record {
          rr = rr;
          last = is;
          rtype = rtype;
          rdata = whole.1 ∙ ap (λ (x : Signature). Some (tsig_values x.tsig)) same;
          start = start;
          name = ap (λ (x : Signature). x.name) same;
          stands = subst (λ p. RecordAt rdata_table m p rr e) (sym at.start ∙ start) at;
        }

-- ---- ranges

pub record InRange (s : Signature) : Type 0 where
  pub name : IsName s.name
  pub algorithm : IsName s.tsig.algorithm
  pub time : s.tsig.time < 2 ^ 48
  pub fudge : s.tsig.fudge < 2 ^ 16
  pub mac : length s.tsig.mac < 2 ^ 16
  pub oid : s.tsig.oid < 2 ^ 16
  pub error : s.tsig.error < 2 ^ 16
  pub other : length s.tsig.other < 2 ^ 16

fields_in_range : (m : List ℕ) (p e q : ℕ) (s : Signature) → AreOctets m → IsName s.name
    → FieldsAt tsig_row m p e (tsig_values s.tsig) q → InRange s
fields_in_range m p e q s octets name f =
    let f1 = f.3 in
    let f2 = f1.3 in
    let f3 = f2.3 in
    let f4 = f3.3 in
    let f5 = f4.3 in
    let f6 = f5.3 in
    record {
      name = name;
      algorithm = name_of_octets m p e s.tsig.algorithm f.0 octets f.1;
      time = time_fits m f.0 e s.tsig.time f1.0 octets f1.1;
      fudge = number_fits m f1.0 e s.tsig.fudge f2.0 octets f2.1;
      mac = counted_fits m f2.0 e s.tsig.mac f3.0 octets f3.1;
      oid = number_fits m f3.0 e s.tsig.oid f4.0 octets f4.1;
      error = number_fits m f4.0 e s.tsig.error f5.0 octets f5.1;
      other = counted_fits m f5.0 e s.tsig.other f6.0 octets f6.1;
    }

pub in_range : (m : List ℕ) (message : Message) (s : Signature) (e : ℕ) → AreOctets m
    → HasTsig rdata_table m message s e → InRange s
in_range m message s e octets has =
    let r = record_of m message s e has in
    let at = r.stands in
    let name : IsName s.name = subst IsName r.name (name_of_octets m s.start (length m) r.rr.name at.fixed octets at.name)
    in
    let data_at : RDataAt rdata_table m (at.fixed + 10) at.data_length r.rr.rtype (Some (tsig_values s.tsig)) = subst
    (λ v. RDataAt rdata_table m (at.fixed + 10) at.data_length r.rr.rtype v) r.rdata at.rdata in
    let row : row_of rdata_table r.rr.rtype ≡ tsig_row = ap (row_of rdata_table) r.rtype ∙ tsig_known.tsig in
    fields_in_range m (at.fixed + 10) (at.fixed + 10 + at.data_length) (at.fixed + 10 + at.data_length) s octets name
    (subst (λ fs. FieldsAt fs m (at.fixed + 10) (at.fixed + 10 + at.data_length) (tsig_values s.tsig)
    (at.fixed + 10 + at.data_length)) row data_at.filled)
