-- A message with a record put after it, taken apart again.
use Rattle.std.proofs.Common.{◌≡◌, ◌≢◌, ℕ, ◌+◌, ◌-◌, ◌≤◌, List, ◌++◌, length, take, drop, slice_range, ◌==◌, Bool}
use Rattle.std.proofs.Common.{true, false, cond, nat_lt, Result, Ok, Err, refl, sym, ap, ◌∙◌, arith, append_assoc, length-append}
use Rattle.std.specs.Int.{w16, from_be_bytes}
use Rattle.std.proofs.lemmas.Bool.{eqb-false}
use Rattle.std.proofs.lemmas.List.{take_all, take-append-drop}
use Rattle.dns_wire.specs.declared.error.EmitError.{EmitError}
use Rattle.dns_wire.specs.declared.error.EmitError.TheVariants.{CountTooLarge, MessageTooLong}
use Rattle.dns_wire.specs.Octets.{AreOctets, two_octets}
use Rattle.dns_wire.specs.Reading.{◌>>=◌}
use Rattle.dns_grammar.specs.Extents.{SameOctets}
use Rattle.dns_grammar.proofs.RecordBack.{GoesOn}
use Rattle.sec_tsig.specs.Tsig.{TsigRecord, additional_count, join, message_without_tsig, sized, with_record, written_record}
use Rattle.sec_tsig.proofs.Pieces.{front_slice, length-slice, next_slice, number_octets, slice_same, slice_split}

-- ---- parts of the joined octets

abbrev count_part : List ℕ → List ℕ
count_part octets = two_octets (additional_count octets + 1)

abbrev pub body_part : List ℕ → List ℕ
body_part octets = slice_range octets 12 (length octets)

early : (a b c d : List ℕ) → a ++ b ++ c ++ d ≡ a ++ (b ++ (c ++ d))
early a b c d = simp append_assoc

late : (a b c d : List ℕ) → a ++ b ++ c ++ d ≡ (a ++ b) ++ (c ++ d)
late a b c d = simp append_assoc

length_front : (octets : List ℕ) → 12 ≤ length octets → length (take 10 octets) ≡ 10
length_front octets le = length-slice octets 0 10 (omega arith) (omega arith)

pub joined_head : (octets behind : List ℕ) (a b : ℕ) → 12 ≤ length octets → a ≤ b → b ≤ 10
    → slice_range (join octets behind) a b ≡ slice_range octets a b
joined_head octets behind a b le order inside =
    let front : List ℕ = take 10 octets in
    let long = length_front octets le in
    ap (λ (l : List ℕ). slice_range l a b) (early front (count_part octets) (body_part octets) behind)
    ∙ front_slice front (count_part octets ++ (body_part octets ++ behind)) a b order (omega (arith, long))
    ∙ sym (front_slice front (drop 10 octets) a b order (omega (arith, long)))
    ∙ ap (λ (l : List ℕ). slice_range l a b) (take-append-drop 10 octets)

-- the count is one more
pub joined_count : (octets behind : List ℕ) → 12 ≤ length octets
    → slice_range (join octets behind) 10 12 ≡ two_octets (additional_count octets + 1)
joined_count octets behind le =
    let front : List ℕ = take 10 octets in
    ap (λ (l : List ℕ). slice_range l 10 12) (early front (count_part octets) (body_part octets) behind)
    ∙ next_slice front (count_part octets) (body_part octets ++ behind) 10 12 (length_front octets le) refl

-- the octets before the body
length_head : (octets : List ℕ) → 12 ≤ length octets → length (take 10 octets ++ count_part octets) ≡ 12
length_head octets le = length-append (take 10 octets) (count_part octets)
    ∙ ap (λ (k : ℕ). k + 2) (length_front octets le)

joined_body : (octets behind : List ℕ) → 12 ≤ length octets
    → slice_range (join octets behind) 12 (length octets) ≡ slice_range octets 12 (length octets)
joined_body octets behind le =
    let front : List ℕ = take 10 octets in
    let end : ℕ = length octets in
    ap (λ (l : List ℕ). slice_range l 12 end) (late front (count_part octets) (body_part octets) behind)
    ∙ next_slice (front ++ count_part octets) (body_part octets) behind 12 end (length_head octets le)
    (length-slice octets 12 end le (omega arith))

-- the octets but for the ID and the count are the same
pub same_head : (octets behind : List ℕ) → 12 ≤ length octets → SameOctets octets (join octets behind) 2 10
same_head octets behind le =
    slice_same octets (join octets behind) 2 10 (sym (joined_head octets behind 2 10 le (omega arith) (omega arith)))

pub same_body : (octets behind : List ℕ) → 12 ≤ length octets
    → SameOctets octets (join octets behind) 12 (length octets)
same_body octets behind le =
    slice_same octets (join octets behind) 12 (length octets) (sym (joined_body octets behind le))

-- the body stands after the count, and the record where the octets end
pub goes_on_body : (octets behind : List ℕ) → 12 ≤ length octets
    → GoesOn (join octets behind) 12 (body_part octets ++ behind)
goes_on_body octets behind le = record {
  front = take 10 octets ++ count_part octets;
  is = late (take 10 octets) (count_part octets) (body_part octets) behind;
  long = length_head octets le;
}

pub goes_on_record : (octets behind : List ℕ) → 12 ≤ length octets → GoesOn (join octets behind) (length octets) behind
goes_on_record octets behind le = record {
  front = take 10 octets ++ count_part octets ++ body_part octets;
  is = refl;
  long =
      omega (
        arith,
        length-append (take 10 octets ++ count_part octets) (body_part octets),
        length_head octets le,
        length-slice octets 12 (length octets) le (omega arith),
      );
}

-- ---- the message as it was

-- What was put after a message is taken off again (RFC 8945 4.3.2).
pub rejoined : (octets behind : List ℕ) (oid additionals : ℕ) → AreOctets octets → 12 ≤ length octets
    → oid ≡ from_be_bytes w16 (slice_range octets 0 2) → additionals ≡ additional_count octets + 1
    → message_without_tsig oid additionals (join octets behind) (length octets) ≡ octets
unfolding message_without_tsig
rejoined octets behind oid additionals are le id more =
    let end : ℕ = length octets in
    let fewer : additionals - 1 ≡ additional_count octets = omega (arith, more) in
    let a : two_octets oid ≡ slice_range octets 0 2 = number_octets octets 0 oid are (omega arith) id in
    let b = joined_head octets behind 2 10 le (omega arith) (omega arith) in
    let c : two_octets (additionals - 1) ≡ slice_range octets 10 12 =
    number_octets octets 10 (additionals - 1) are le fewer in
    let d = joined_body octets behind le in
    (λ i. a i ++ b i ++ c i ++ d i)
    ∙ ap (λ (l : List ℕ). l ++ slice_range octets 10 12 ++ slice_range octets 12 end)
    (sym (slice_split octets 0 2 10 (omega arith) (omega arith)))
    ∙ ap (λ (l : List ℕ). l ++ slice_range octets 12 end) (sym (slice_split octets 0 10 12 (omega arith) (omega arith)))
    ∙ sym (slice_split octets 0 12 end (omega arith) le)
    ∙ take_all (end - 0) octets (omega arith)

-- ---- what was joined

-- the octets of a record that was put after a message
pub record JoinedBy (octets : List ℕ) (rr : TsigRecord) (signed : List ℕ) : Type 0 where
  pub behind : List ℕ
  pub few : additional_count octets ≢ 65535
  pub written : written_record rr ≡ Ok behind
  pub is : signed ≡ join octets behind

pub joined_by : (octets : List ℕ) (rr : TsigRecord) (signed : List ℕ) → with_record octets rr ≡ Ok signed
    → JoinedBy octets rr signed
joined_by octets rr signed is = counted (additional_count octets == 65535) refl (written_record rr) refl is
  where
    fitted : (x : List ℕ) (b : Bool) → cond b (Err MessageTooLong) (let ok : Result (List ℕ) EmitError = Ok x in ok)
        ≡ Ok signed → signed ≡ x
    fitted x true e = absurd cc
    fitted x false e = cc

    counted : (many : Bool) → (additional_count octets == 65535) ≡ many → (written : Result (List ℕ) EmitError)
        → written_record rr ≡ written
        → cond many (Err CountTooLarge) (written >>= λ behind. sized (join octets behind)) ≡ Ok signed
        → JoinedBy octets rr signed
    counted true few written is e = absurd cc
    counted false few (Err cause) is e = absurd cc
    counted false few (Ok behind) is e = record {
      behind = behind;
      few = eqb-false _ _ few;
      written = is;
      is = fitted (join octets behind) (nat_lt 65535 (length (join octets behind))) e;
    }
