-- Values that stand somewhere can be written.
use Rattle.std.proofs.Common.{◌≡◌, ◌≢◌, ℕ, zero, suc, ◌+◌, ◌-◌, ◌^◌, ◌≤◌, ◌<◌, true, false, eqb, ltb, List, [], ◌∷◌}
use Rattle.std.proofs.Common.{◌++◌, length, take, drop, get_or, Option, None, Some, Result, Ok, refl, sym, ap, subst}
use Rattle.std.proofs.Common.{◌∙◌, arith, length-append}
use Rattle.std.proofs.lemmas.List.{length-take, length-drop}
use Rattle.std.proofs.lemmas.Bool.{lt-ltb, le-ltb, ne_eqb}
use Rattle.std.specs.Int.{w16, w32, byte_len, from_be_bytes}
use Rattle.dns_wire.specs.declared.error.DecodeError.{DecodeError}
use Rattle.dns_wire.specs.declared.error.EmitError.{EmitError}
use Rattle.dns_wire.specs.declared.error.EmitError.TheVariants.{StringTooLong, TimeTooLarge}
use Rattle.dns_wire.specs.Reading.{OctetsAt, NumberAt, TimeAt, CountedAt}
use Rattle.dns_wire.specs.Octets.{AreOctets, six_octets}
use Rattle.dns_names.specs.Names.{wire}
use Rattle.dns_names.specs.NameLaws.{length_lt-wire}
use Rattle.dns_grammar.specs.Fields.{Size, One, Two, Four, width, limit, Kind, Number, Time, Fixed, Counted, Strings}
use Rattle.dns_grammar.specs.Fields.{Rest, LoweredName, KeptName, Value, Num, Str, Strs, Named, Field, Table, row_of, StringsAt}
use Rattle.dns_grammar.specs.Fields.{ValueAt, FieldsAt, counted_octets, strings_octets, value_octets, fields_octets}
use Rattle.dns_grammar.specs.RecordData.{EmptyAt, one_type_data_at, rdata_at}
use Rattle.dns_grammar.specs.Laws.{Holds, HoldsAll, rest_is_last, ReadIsReadAgain, WrittenRowIsRead, ReadRowIsReadAgain}
use Rattle.dns_grammar.specs.Laws.{WrittenDataIsRead, ReadDataIsReadAgain}
use Rattle.dns_names.proofs.PlaceLaws.{name_of_octets}
use Rattle.dns_grammar.proofs.DataLaws.{row_stands, row_is_read, rdata_stands, rdata_read, is_empty_true}
use Rattle.dns_grammar.proofs.DataLaws.{is_empty_false}
use Rattle.dns_grammar.proofs.ReadBack.{with_count, ok_octets, chose_octets, joins, written_reads}

-- ---- octets stay octets

taken : (n : ℕ) (m : List ℕ) → AreOctets m → AreOctets (take n m)
taken zero m h = tt
taken (suc n) [] h = tt
taken (suc n) (x ∷ m) h = (h.0, taken n m h.1)

dropped : (n : ℕ) (m : List ℕ) → AreOctets m → AreOctets (drop n m)
dropped zero m h = h
dropped (suc n) [] h = tt
dropped (suc n) (x ∷ m) h = dropped n m h.1

at_index : (m : List ℕ) (k : ℕ) → AreOctets m → get_or m k 0 < 256
at_index [] zero h = omega arith
at_index [] (suc k) h = omega arith
at_index (x ∷ m) zero h = h.0
at_index (x ∷ m) (suc k) h = at_index m k h.1

number_below : (size : Size) (x : List ℕ) → AreOctets x → from_be_bytes (width size) x < limit size
number_below One x h = omega (arith, at_index x 0 h)
number_below Two x h = omega (arith, at_index x 0 h, at_index x 1 h)
number_below Four x h = omega (arith, at_index x 0 h, at_index x 1 h, at_index x 2 h, at_index x 3 h)

-- ---- what stands is in its range

octets_len : (n : ℕ) (m : List ℕ) (p e : ℕ) (x : List ℕ) (q : ℕ) → OctetsAt n m p e x q → length x ≡ n
octets_len n m p e x q s =
    ap (λ (l : List ℕ). length l) s.value ∙ omega (
      arith,
      length-take n
          (drop p m),
      length-drop p m,
      s.end,
      s.inside,
      s.within,
    )

octets_are : (n : ℕ) (m : List ℕ) (p e : ℕ) (x : List ℕ) (q : ℕ) → AreOctets m → OctetsAt n m p e x q → AreOctets x
octets_are n m p e x q octets s = subst AreOctets (sym s.value) (taken n (drop p m) (dropped p m octets))

pub number_fits : (size : Size) (m : List ℕ) (p e n q : ℕ) → AreOctets m → NumberAt (width size) m p e n q → n < limit size
number_fits size m p e n q octets s = subst (λ k. k < limit size) (sym s.2)
    (number_below size s.0 (octets_are (byte_len (width size)) m p e s.0 q octets s.1))

counted_fits : (size : Size) (m : List ℕ) (p e : ℕ) (x : List ℕ) (q : ℕ) → AreOctets m
    → CountedAt (width size) m p e x q → length x < limit size
counted_fits size m p e x q octets s = subst (λ k. k < limit size) (sym (octets_len s.0 m s.1 e x q s.3))
    (number_fits size m p e s.0 s.1 octets s.2)

time_fits : (m : List ℕ) (p e n q : ℕ) → AreOctets m → TimeAt m p e n q → n < 2 ^ 48
time_fits m p e n q octets s =
    let are : AreOctets s.0 = octets_are 6 m p e s.0 q octets s.1 in
    let high : from_be_bytes w16 (take 2 s.0) < 2 ^ 16 = number_below Two (take 2 s.0) (taken 2 s.0 are) in
    let low : from_be_bytes w32 (drop 2 s.0) < 2 ^ 32 = number_below Four (drop 2 s.0) (dropped 2 s.0 are) in
    subst (λ k. k < 2 ^ 48) (sym s.2) (omega (arith, high, low))

-- ---- so it can be written

counted_writes : (size : Size) (too_long : EmitError) (x : List ℕ) → length x < limit size
    → counted_octets size too_long x ≡ Ok (with_count size x)
counted_writes size too_long x lt = let test : ltb (length x) (limit size) ≡ true = lt-ltb _ _ lt in rw test refl

strings_write : (m : List ℕ) (p e : ℕ) (strings : List (List ℕ)) (q : ℕ) → AreOctets m → StringsAt m p e strings q
    → (x : List ℕ) × (strings_octets strings ≡ Ok x)
strings_write m p e [] q octets s = ([], refl)
strings_write m p e (x ∷ xs) q octets s =
    let rest = strings_write m s.1.0 e xs q octets s.1.2 in (
      with_count One x ++ rest.0,
      rw (
        counted_writes One StringTooLong x
            (counted_fits One m p e x s.1.0 octets s.1.1),
        rest.1,
      ) refl,
    )

-- what is known of a value that stands somewhere
pub record CanWrite (kind : Kind) (v : Value) : Type 0 where
  pub holds : Holds kind v
  pub octets : List ℕ
  pub written : value_octets false kind v ≡ Ok octets

pub can_write : (kind : Kind) (m : List ℕ) (p e : ℕ) (v : Value) (q : ℕ) → AreOctets m → ValueAt kind m p e v q
    → CanWrite kind v
can_write (Number size) m p e (Num n) q octets s = record {
  holds = number_fits size m p e n q octets s;
  octets = _;
  written = refl;
}
can_write Time m p e (Num n) q octets s =
    let test : ltb n (2 ^ 48) ≡ true = lt-ltb _ _ (time_fits m p e n q octets s) in
    record { holds = tt; octets = six_octets n; written = rw test refl }
can_write (Fixed n) m p e (Str x) q octets s = record { holds = octets_len n m p e x q s; octets = _; written = refl }
can_write (Counted size too_long) m p e (Str x) q octets s =
    record {
      holds = tt;
      octets = with_count size x;
      written = counted_writes size too_long x
          (counted_fits size m p e x q octets s);
    }
can_write Strings m p e (Strs strings) q octets s = let w = strings_write m p e strings q octets s in
    record { holds = tt; octets = w.0; written = w.1 }
can_write Rest m p e (Str x) q octets s = record { holds = tt; octets = x; written = refl }
can_write LoweredName m p e (Named n) q octets s = record {
  holds = name_of_octets m p e n q octets s;
  octets = _;
  written =
      refl;
}
can_write KeptName m p e (Named n) q octets s = record {
  holds = name_of_octets m p e n q octets s;
  octets = _;
  written =
      refl;
}
can_write _ m p e _ q octets s = absurd s

record CanWriteAll (fields : List Field) (values : List Value) : Type 0 where
  pub holds : HoldsAll fields values
  pub octets : List ℕ
  pub written : fields_octets false fields values ≡ Ok octets

can_write_all : (fields : List Field) (m : List ℕ) (p e : ℕ) (values : List Value) (q : ℕ) → AreOctets m
    → FieldsAt fields m p e values q → CanWriteAll fields values
can_write_all [] m p e [] q octets s = record { holds = tt; octets = []; written = refl }
can_write_all (f ∷ fs) m p e (v ∷ vs) q octets s =
    let first = can_write f.kind m p e v s.0 octets s.1 in
    let behind = can_write_all fs m s.0 e vs q octets s.3 in
    record {
      holds = (first.holds, s.2, behind.holds);
      octets = first.octets
          ++ behind.octets;
      written = rw (first.written, behind.written) refl;
    }
can_write_all [] m p e (v ∷ vs) q octets s = absurd s
can_write_all (f ∷ fs) m p e [] q octets s = absurd s

pub read_again : (fields : List Field) → rest_is_last fields ≡ true → ReadIsReadAgain fields
read_again fields last m p e values octets within read =
    let c = can_write_all fields m p e values e octets (row_stands fields m p e values within read) in
    (c.octets, c.written, λ front back. written_reads fields values c.octets front back last c.holds c.written)

-- ---- record data

count_some : (size : Size) (z : List ℕ) → 0 < length (with_count size z)
count_some One z = omega arith
count_some Two z = omega arith
count_some Four z = omega arith

-- what is written of a value that takes octets is not empty
value_some : (kind : Kind) (m : List ℕ) (p e : ℕ) (v : Value) (q : ℕ) (x : List ℕ) → e ≤ length m
    → ValueAt kind m p e v q → value_octets false kind v ≡ Ok x → length x ≡ 0 → q ≤ p
value_some (Number One) m p e (Num n) q x within s is none = absurd (omega (arith, ap length (ok_octets _ x is), none))
value_some (Number Two) m p e (Num n) q x within s is none = absurd (omega (arith, ap length (ok_octets _ x is), none))
value_some (Number Four) m p e (Num n) q x within s is none = absurd (omega (arith, ap length (ok_octets _ x is), none))
value_some Time m p e (Num n) q x within s is none =
    let c = chose_octets (ltb n (2 ^ 48)) (six_octets n) x TimeTooLarge is in
    absurd (omega (arith, ap length c.1, none))
value_some (Fixed n) m p e (Str z) q x within s is none = omega
    (arith, ap length (ok_octets z x is), none, octets_len n m p e z q s, s.end)
value_some (Counted size too_long) m p e (Str z) q x within s is none =
    let c = chose_octets (ltb (length z) (limit size)) (with_count size z) x too_long is in
    absurd (omega (arith, ap length c.1, none, count_some size z))
value_some Strings m p e (Strs []) q x within s is none = omega (arith, s.1)
value_some Strings m p e (Strs (z ∷ zs)) q x within s is none =
    let j = joins (counted_octets One StringTooLong z) (strings_octets zs) x is in
    let c = chose_octets (ltb (length z) (limit One)) (with_count One z) j.first StringTooLong j.first_is in
    absurd (omega (arith, ap length c.1, ap length j.whole, length-append j.first j.second, none, count_some One z))
value_some Rest m p e (Str z) q x within s is none =
    let long : length z ≡ length (take (e - p) (drop p m)) = ap length s.0 in
    omega (
      arith,
      ap length (ok_octets z x is),
      none,
      long,
      length-take (e - p)
          (drop p m),
      length-drop p m,
      s.1,
      within,
    )
value_some LoweredName m p e (Named n) q x within s is none = absurd
    (omega (arith, ap length (ok_octets (wire n) x is), none, length_lt-wire n))
value_some KeptName m p e (Named n) q x within s is none = absurd
    (omega (arith, ap length (ok_octets (wire n) x is), none, length_lt-wire n))
value_some _ m p e _ q x within s is none = absurd s

fields_some : (fields : List Field) (m : List ℕ) (p e : ℕ) (values : List Value) (q : ℕ) (x : List ℕ) → e ≤ length m
    → FieldsAt fields m p e values q → fields_octets false fields values ≡ Ok x → length x ≡ 0 → q ≤ p
fields_some [] m p e [] q x within s is none = omega (arith, s)
fields_some (f ∷ fs) m p e (v ∷ vs) q x within s is none =
    let j = joins (value_octets false f.kind v) (fields_octets false fs vs) x is in
    let both : length j.first + length j.second ≡ 0 = sym (length-append j.first j.second) ∙ ap length j.whole ∙ none in
    let first = value_some f.kind m p e v s.0 j.first within s.1 j.first_is (omega (arith, both)) in
    let behind = fields_some fs m s.0 e vs q j.second within s.3 j.second_is (omega (arith, both)) in
    omega (arith, first, behind)
fields_some [] m p e (v ∷ vs) q x within s is none = absurd s
fields_some (f ∷ fs) m p e [] q x within s is none = absurd s

positive : (n : ℕ) → n ≢ 0 → 0 < n
positive n ne = omega arith

pub written_row : (fields : List Field) → rest_is_last fields ≡ true → WrittenRowIsRead fields
unfolding one_type_data_at
written_row fields last values x front back holds lt is =
    let fits : ltb (length (front ++ (x ++ back))) (length front + length x)
    ≡ false = le-ltb _ _ (omega (arith, length-append front (x ++ back), length-append x back)) in
    let some : eqb (length x) 0 ≡ false = ne_eqb (length x) 0 (omega (arith, lt)) in
    rw (fits, some, written_reads fields values x front back last holds is) refl

pub read_row_again : (fields : List Field) → rest_is_last fields ≡ true → ReadRowIsReadAgain fields
read_row_again fields last m p len values q octets read =
    let s = (row_is_read fields m p len values q).0 read in
    let c = can_write_all fields m p (p + len) values (p + len) octets s.0.filled in
    let lt : 0 < len = s.0.nonempty in
    let some : 0 < length c.octets = positive (length c.octets)
    (λ none. absurd (omega (
      arith,
      lt,
      fields_some fields m p (p + len) values
          (p + len) c.octets s.0.within s.0.filled c.written none,
    ))) in
    (c.octets, c.written, λ front back. written_row fields last values c.octets front back c.holds some c.written)

pub written_data : (table : Table) → WrittenDataIsRead table
unfolding rdata_at
written_data table rtype None x front back last holds is =
    let none : x ≡ [] = sym (ok_octets [] x is) in
    let empty : EmptyAt (front ++ (x ++ back)) (length front)
    (length x) rtype = record {
      empty = ap length none;
      not_tsig = holds;
      within = omega
          (arith, length-append front (x ++ back));
    } in
    let end : length front ≡ length front + length x = omega (arith, ap length none) in
    rw (is_empty_true _ _ _ rtype empty) (ap (λ k. let ok : Result (Option (List Value) × ℕ) DecodeError = Ok
    (None, k) in ok) end)
written_data table rtype (Some values) x front back last holds is =
    rw (
      is_empty_false _ _ _ rtype holds.1,
      written_row
          (row_of table rtype) last values x front back holds.0 holds.1 is,
    ) refl

pub read_data_again : (table : Table) → ReadDataIsReadAgain table
read_data_again table m p len rtype None q last octets read =
    let s = rdata_stands table m p len rtype None q read in
    ([], refl, λ front back. written_data table rtype None [] front back last s.0.not_tsig refl)
read_data_again table m p len rtype (Some values) q last octets read =
    let s = rdata_stands table m p len rtype (Some values) q read in
    let row = read_row_again (row_of table rtype) last m p len values q octets
    ((row_is_read (row_of table rtype) m p len values q).1 s) in (
      row.0,
      row.1,
      λ front back. rdata_read table _ _ _ rtype (Some values) _
          ((row_is_read (row_of table rtype) _ _ _ values _).0 (row.2 front back)),
    )
