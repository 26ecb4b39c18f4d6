-- What is written of a record is read as the same record.
use Rattle.std.proofs.Common.{◌≡◌, ◌⊎◌, ℕ, ◌+◌, ◌≤◌, ◌<◌, Bool, true, false, cond, ltb, List, ◌++◌, length, Option}
use Rattle.std.proofs.Common.{Result, Ok, Err, refl, sym, ap, subst, ◌∙◌, arith, length-append, append_assoc}
use Rattle.std.specs.Int.{to_be_bytes}
use Rattle.std.proofs.lemmas.Bool.{ltb-false}
use Rattle.dns_wire.specs.declared.error.DecodeError.{DecodeError}
use Rattle.dns_wire.specs.declared.error.EmitError.{EmitError}
use Rattle.dns_wire.specs.declared.error.EmitError.TheVariants.{DataTooLong}
use Rattle.dns_wire.specs.Octets.{two_octets, four_octets}
use Rattle.dns_names.specs.Names.{IsName, wire}
use Rattle.dns_names.specs.Places.{name_at}
use Rattle.dns_wire.specs.Reading.{◌>>=◌, number_at}
use Rattle.dns_wire.specs.declared.encoder.NameEncoding.TheVariants.{Uncompressed}
use Rattle.dns_grammar.specs.Fields.{Size, Two, Four, width, limit, Value, Table, row_of}
use Rattle.dns_grammar.specs.RecordData.{rdata_at, plain, fitting}
use Rattle.dns_grammar.specs.Messages.{ResourceRecord, NotTsig, head_at, record_at}
use Rattle.dns_grammar.specs.MessageWriting.{head_octets, record_octets}
use Rattle.dns_grammar.specs.Laws.{HoldsData, rest_is_last, IsRecord, WrittenRecordIsRead}
use Rattle.dns_grammar.proofs.ReadBack.{number_back, name_back, ok_octets}
use Rattle.dns_grammar.proofs.ReadAgain.{written_data}
use Rattle.dns_grammar.proofs.HeadLaws.{ok_placed}

-- m goes on with these octets at p
pub record GoesOn (m : List ℕ) (p : ℕ) (rest : List ℕ) : Type 0 where
  pub front : List ℕ
  pub is : m ≡ front ++ rest
  pub long : length front ≡ p

pub behind : (m : List ℕ) (p : ℕ) (piece rest : List ℕ) → GoesOn m p (piece ++ rest) → GoesOn m (p + length piece) rest
behind m p piece rest h = record {
  front = h.front ++ piece;
  is = h.is
      ∙ sym (append_assoc h.front piece rest);
  long = length-append h.front piece
      ∙ ap (λ (k : ℕ). k + length piece) h.long;
}

abbrev number_and : ℕ → ℕ → Result (ℕ × ℕ) DecodeError
number_and n q = Ok (n, q)

abbrev name_and : List (List ℕ) → ℕ → Result (List (List ℕ) × ℕ) DecodeError
name_and n q = Ok (n, q)

pub number_here : (size : Size) (n : ℕ) (m : List ℕ) (p : ℕ) (rest : List ℕ) → n < limit size
    → GoesOn m p (to_be_bytes (width size) n ++ rest)
    → number_at (width size) m p (length m) ≡ Ok (n, p + length (to_be_bytes (width size) n))
number_here size n m p rest lt h =
    let piece : List ℕ = to_be_bytes (width size) n in
    let le : length h.front + length piece ≤ length m = omega
    (arith, ap length h.is, length-append h.front (piece ++ rest), length-append piece rest) in
    (λ i. number_at (width size) (h.is i) (sym h.long i) (length m)) ∙ number_back size n h.front rest (length m) lt le
    ∙ ap (λ (k : ℕ). number_and n (k + length piece)) h.long

pub name_here : (n : List (List ℕ)) (m : List ℕ) (p : ℕ) (rest : List ℕ) → IsName n → GoesOn m p (wire n ++ rest)
    → name_at m p (length m) ≡ Ok (n, p + length (wire n))
name_here n m p rest name h =
    let same : length m ≡ length (h.front ++ (wire n ++ rest)) = ap length h.is in
    let le : length h.front + length (wire n) ≤ length m = omega
    (arith, same, length-append h.front (wire n ++ rest), length-append (wire n) rest) in
    (λ i. name_at (h.is i) (sym h.long i) (length m))
    ∙ name_back n h.front rest (length m) name le (omega (arith, same))
    ∙ ap (λ (k : ℕ). name_and n (k + length (wire n))) h.long

data_here : (table : Table) (rtype : ℕ) (rdata : Option (List Value)) (x : List ℕ) (m : List ℕ) (p : ℕ) (rest : List ℕ)
    → rest_is_last (row_of table rtype) ≡ true → HoldsData table rtype rdata x
    → plain table rtype rdata ≡ Ok x → GoesOn m p (x ++ rest)
    → rdata_at table m p (length x) rtype ≡ Ok (rdata, p + length x)
data_here table rtype rdata x m p rest last holds is h =
    (λ i. rdata_at table (h.is i) (sym h.long i) (length x) rtype)
    ∙ written_data table rtype rdata x h.front rest last holds is
    ∙ ap (λ (k : ℕ). let ok : Result (Option (List Value) × ℕ) DecodeError = Ok (rdata, k + length x) in ok) h.long

-- octets that fit
record Fits (r : Result (List ℕ) EmitError) (x : List ℕ) : Type 0 where
  pub is : r ≡ Ok x
  pub at_most : length x ≤ 65535

sized : (b : Bool) (x y : List ℕ) → cond b (Err DataTooLong) (let ok : Result (List ℕ) EmitError = Ok x in ok) ≡ Ok y
    → (b ≡ false) × (x ≡ y)
sized true x y h = absurd cc
sized false x y h = (refl, ok_octets x y h)

fits : (r : Result (List ℕ) EmitError) (y : List ℕ) → fitting r ≡ Ok y → Fits r y
fits (Err e) y h = absurd cc
fits (Ok x) y h =
    let s = sized (ltb 65535 (length x)) x y h in
    subst (λ z. Fits (Ok x) z) s.1 (record { is = refl; at_most = ltb-false _ _ s.0 })

-- the parts of a record's octets
abbrev pieces : ResourceRecord → List ℕ → List ℕ → List ℕ
pieces rr x back = wire rr.name ++ (two_octets rr.rtype
    ++ (two_octets rr.dns_class ++ (four_octets rr.ttl ++ (two_octets (length x) ++ (x ++ back)))))

regroup : (a b c d l x back : List ℕ) → ((a ++ (b ++ (c ++ (d ++ l)))) ++ x) ++ back
    ≡ a ++ (b ++ (c ++ (d ++ (l ++ (x ++ back)))))
regroup a b c d l x back = simp append_assoc refl

total : (a b c d l x : List ℕ) → length ((a ++ (b ++ (c ++ (d ++ l)))) ++ x)
    ≡ length a + length b + length c + length d + length l + length x
total a b c d l x =
    omega (
      arith,
      length-append (a ++ (b ++ (c ++ (d ++ l)))) x,
      length-append a (b ++ (c ++ (d ++ l))),
      length-append b (c ++ (d ++ l)),
      length-append c (d ++ l),
      length-append d l,
    )

record HasOctets (table : Table) (rr : ResourceRecord) (y : List ℕ) : Type 0 where
  pub rdata : List ℕ
  pub fits_two : Fits (plain table rr.rtype rr.rdata) rdata
  pub whole : head_octets Uncompressed rr (length rdata) ++ rdata ≡ y

has_octets : (table : Table) (rr : ResourceRecord) (y : List ℕ) → record_octets false Uncompressed table rr ≡ Ok y
    → HasOctets table rr y
has_octets table rr y h = go (fitting (plain table rr.rtype rr.rdata)) refl h
  where
    go : (r : Result (List ℕ) EmitError) → fitting (plain table rr.rtype rr.rdata) ≡ r
        → (r >>= λ x. Ok (head_octets Uncompressed rr (length x) ++ x)) ≡ Ok y → HasOctets table rr y
    go (Ok x) is w = record { rdata = x; fits_two = fits (plain table rr.rtype rr.rdata) x is; whole = ok_octets _ y w }
    go (Err e) is w = absurd cc

record_here : (table : Table) (is_last : Bool) (rr : ResourceRecord) (x : List ℕ) (m : List ℕ) (p : ℕ) (back : List ℕ)
    → IsRecord table rr → (is_last ≡ true) ⊎ NotTsig rr
    → Fits (plain table rr.rtype rr.rdata) x → GoesOn m p (pieces rr x back)
    → record_at table is_last m p ≡ Ok (
      record rr { start = p },
      p + length (wire rr.name) + 2 + 2 + 4 + 2
          + length x,
    )
unfolding record_at head_at
record_here table is_last rr x m p back can place f h =
    let a = behind m p (wire rr.name) _ h in
    let b = behind m (p + length (wire rr.name)) (two_octets rr.rtype) _ a in
    let c = behind m (p + length (wire rr.name) + 2) (two_octets rr.dns_class) _ b in
    let d = behind m (p + length (wire rr.name) + 2 + 2) (four_octets rr.ttl) _ c in
    let e = behind m (p + length (wire rr.name) + 2 + 2 + 4) (two_octets (length x)) _ d in
    rw (
      name_here rr.name m p _ can.name h,
      number_here Two rr.rtype m (p + length (wire rr.name)) _ can.rtype a,
      number_here Two rr.dns_class m (p + length (wire rr.name) + 2) _ can.dns_class b,
      number_here Four rr.ttl m (p + length (wire rr.name) + 2 + 2) _ can.ttl c,
      number_here Two (length x) m (p + length (wire rr.name) + 2 + 2 + 4) _ (omega (arith, f.at_most)) d,
      ok_placed is_last rr.rtype place,
      data_here table rr.rtype rr.rdata x m (p + length (wire rr.name) + 2 + 2 + 4 + 2) back can.rest_is_last
          (can.rdata x f.is) f.is e,
    ) refl

abbrev record_and : ResourceRecord → ℕ → ℕ → Result (ResourceRecord × ℕ) DecodeError
record_and rr start q = Ok (record rr { start = start }, q)

-- the octets of a record are read as it, with what is behind them
pub record_goes : (table : Table) (is_last : Bool) (rr : ResourceRecord) (y m : List ℕ) (p : ℕ) (back : List ℕ)
    → IsRecord table rr → (is_last ≡ true) ⊎ NotTsig rr
    → record_octets false Uncompressed table rr ≡ Ok y → GoesOn m p (y ++ back)
    → record_at table is_last m p ≡ Ok (record rr { start = p }, p + length y)
record_goes table is_last rr y m p back can place is h =
    let has = has_octets table rr y is in
    let x : List ℕ = has.rdata in
    let octets : y ++ back ≡ pieces rr x back =
    ap (λ (z : List ℕ). z ++ back) (sym has.whole)
    ∙ regroup (wire rr.name) (two_octets rr.rtype) (two_octets rr.dns_class) (four_octets rr.ttl)
    (two_octets (length x)) x back in
    let goes : GoesOn m p (pieces rr x back) = record {
      front = h.front;
      is = h.is
          ∙ ap (λ (z : List ℕ). h.front ++ z) octets;
      long = h.long;
    } in
    let long : length y ≡ length (wire rr.name) + 2 + 2 + 4 + 2 + length x =
    ap length (sym has.whole)
    ∙ total (wire rr.name) (two_octets rr.rtype) (two_octets rr.dns_class) (four_octets rr.ttl)
    (two_octets (length x)) x in
    let end : p + length (wire rr.name) + 2 + 2 + 4 + 2 + length x ≡ p + length y = omega (arith, long) in
    record_here table is_last rr x m p back can place has.fits_two goes ∙ ap (record_and rr p) end

pub written_record : (table : Table) → WrittenRecordIsRead table
written_record table is_last rr y front back can place is =
    record_goes table is_last rr y (front ++ (y ++ back)) (length front) back can place is
    (record { front = front; is = refl; long = refl })
