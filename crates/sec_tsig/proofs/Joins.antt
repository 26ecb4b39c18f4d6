-- A TSIG record put after a message.
use Rattle.std.proofs.Common.{◌≡◌, ◌≢◌, ℕ, ◌+◌, ◌-◌, ◌≤◌, ◌<◌, true, false, nat_lt, List, [], ◌++◌, length}
use Rattle.std.proofs.Common.{take, drop, slice_range, Result, Ok, Err, refl, sym, ap, ◌∙◌, arith, append_assoc}
use Rattle.std.proofs.Common.{length-append, lt-ltb, eq-eqb, subst}
use Rattle.std.specs.Int.{w16, from_be_bytes}
use Rattle.std.proofs.lemmas.Bool.{le-ltb, ne_eqb}
use Rattle.std.proofs.lemmas.List.{append-nil, drop_all, drop_at, length-take, length-drop, take_all, take_at, take_rest}
use Rattle.std.proofs.lemmas.List.{take-append-drop, take-append-le, drop-append-le}
use borrow.Rule.Slice.PartMut.{put_mid}
use Rattle.dns_wire.specs.declared.encoder.NameEncoding.TheVariants.{Uncompressed}
use Rattle.dns_wire.specs.declared.error.EmitError.{EmitError}
use Rattle.dns_wire.specs.declared.error.EmitError.TheVariants.{CountTooLarge, MessageTooLong}
use Rattle.dns_wire.specs.Octets.{two_octets}
use Rattle.dns_wire.specs.Reading.{◌>>=◌}
use Rattle.dns_wire.specs.Rooms.{FillsStart, FitsRoom, Measures, counted as counted_octets}
use Rattle.dns_wire.specs.Writing.{paste}
use Rattle.sec_sigdata.specs.declared.tsig.TSIG.{TSIG}
use Rattle.dns_message.specs.declared.record.Record.{Record}
use Rattle.dns_message.specs.MessageWriting.{written_tsig_record}
use Rattle.sec_tsig.specs.Tsig.{TsigRecord, additional_count, join, sized, tsig_record, with_record, written_record}

-- the octets of the record, as dns_message writes them
pub octets_of_record : (rr : Record TSIG) → written_record (tsig_record rr) ≡ written_tsig_record false Uncompressed rr
octets_of_record rr = refl

pub length-join : (octets behind : List ℕ) → 12 ≤ length octets
    → length (join octets behind) ≡ length octets + length behind
length-join octets behind le =
    simp (length-append, length-take, length-drop) (omega arith)

pub many : (octets : List ℕ) (rr : TsigRecord) → additional_count octets ≡ 65535
    → with_record octets rr ≡ Err CountTooLarge
many octets rr is = let e = eq-eqb _ _ is in rw e refl

pub unwritten : (octets : List ℕ) (rr : TsigRecord) (cause : EmitError) → additional_count octets ≢ 65535
    → written_record rr ≡ Err cause → with_record octets rr ≡ Err cause
unwritten octets rr cause other is = let e = ne_eqb _ _ other in rw e (ap (λ r. r >>= λ behind. sized (join octets behind)) is)

pub long : (octets : List ℕ) (rr : TsigRecord) (behind : List ℕ) → 12 ≤ length octets → additional_count octets ≢ 65535
    → written_record rr ≡ Ok behind → 65535 < length octets + length behind → with_record octets rr ≡ Err MessageTooLong
long octets rr behind le other is lt =
    let e = ne_eqb _ _ other in
    let passed : nat_lt 65535 (length (join octets behind)) ≡ true = lt-ltb _ _ (omega (arith, length-join octets behind le)) in
    rw e (ap (λ r. r >>= λ behind. sized (join octets behind)) is ∙ rw passed refl)

pub joined : (octets : List ℕ) (rr : TsigRecord) (behind : List ℕ) → 12 ≤ length octets → additional_count octets ≢ 65535
    → written_record rr ≡ Ok behind → length octets + length behind ≤ 65535 → with_record octets rr ≡ Ok (join octets behind)
joined octets rr behind le other is short =
    let e = ne_eqb _ _ other in
    let fits : nat_lt 65535 (length (join octets behind)) ≡ false = le-ltb _ _ (omega (arith, length-join octets behind le)) in
    rw e (ap (λ r. r >>= λ behind. sized (join octets behind)) is ∙ rw fits refl)

-- what is measured is written
measured : (n : ℕ) (written : Result (List ℕ) EmitError) → Measures (Ok n) written
    → (behind : List ℕ) × (written ≡ Ok behind) × (n ≡ counted_octets behind)
measured n (Ok behind) is = (behind, refl, is)
measured n (Err e) is = absurd is

pub measured_long : (octets : List ℕ) (rr : TsigRecord) (n : ℕ) → 12 ≤ length octets → additional_count octets ≢ 65535
    → Measures (Ok n) (written_record rr) → 65535 < length octets + n → with_record octets rr ≡ Err MessageTooLong
measured_long octets rr n le other is lt =
    let m = measured n (written_record rr) is in
    long octets rr m.0 le other m.1 (omega (arith, m.2, lt))

pub measured_joined : (octets : List ℕ) (rr : TsigRecord) (n : ℕ) → 12 ≤ length octets → additional_count octets ≢ 65535
    → Measures (Ok n) (written_record rr) → length octets + n ≤ 65535
    → (behind : List ℕ) × (written_record rr ≡ Ok behind) × (with_record octets rr ≡ Ok (join octets behind))
    × (length octets + n ≡ length octets + length behind)
measured_joined octets rr n le other is short =
    let m = measured n (written_record rr) is in
    let own : n ≡ length m.0 = omega (arith, m.2, short) in
    (m.0, m.1, joined octets rr m.0 le other m.1 (omega (arith, own, short)), ap (λ k. length octets + k) own)

pub ruleset exits = (many, unwritten, measured_long, measured_joined)

-- the count of a message with more after it
pub same_count : (octets behind : List ℕ) → 12 ≤ length octets
    → additional_count (octets ++ behind) ≡ additional_count octets
same_count octets behind le =
    ap (λ l. from_be_bytes w16 (take 2 l)) (drop-append-le 10 octets behind (omega arith))
    ∙ ap (from_be_bytes w16) (take-append-le 2 (drop 10 octets) behind (simp length-drop (omega arith)))

-- the message with its count raised
pub counted : (octets behind : List ℕ) → 12 ≤ length octets
    → paste (octets ++ behind) 10 (two_octets (additional_count (octets ++ behind) + 1)) ≡ join octets behind
counted octets behind le =
    ap (λ n. paste (octets ++ behind) 10 (two_octets (n + 1))) (same_count octets behind le)
    ∙ ap (λ l. l ++ two_octets (additional_count octets + 1) ++ drop 12 (octets ++ behind))
    (take-append-le 10 octets behind (omega arith))
    ∙ ap (λ l. take 10 octets ++ two_octets (additional_count octets + 1) ++ l)
    (drop-append-le 12 octets behind le ∙ ap (λ l. l ++ behind) (sym (take_rest octets 12)))
    ∙ sym (append_assoc (take 10 octets ++ two_octets (additional_count octets + 1))
    (slice_range octets 12 (length octets)) behind)

-- ---- in place

-- the count of what begins with a message
pub counted_start : (room behind : List ℕ) (end : ℕ) → 12 ≤ end → end ≤ length room
    → additional_count (take end room ++ behind) ≡ additional_count room
counted_start room behind end le inside =
    let header : 12 ≤ length (take end room) = omega (arith, length-take end room, le, inside) in
    same_count (take end room) behind header
    ∙ sym (same_count (take end room) (drop end room) header)
    ∙ ap additional_count (take-append-drop end room)

-- what is after a message
rest_of : (room message rest : List ℕ) (end : ℕ) → room ≡ message ++ rest → length message ≡ end
    → (take end room ≡ message) × (drop end room ≡ rest)
rest_of room message rest end is len =
    (ap (take end) is ∙ take_at message rest end len, ap (drop end) is ∙ drop_at message rest end len)

-- a record put after a message, and counted
pub put_and_counted : (room message rest octets part new : List ℕ) (end : ℕ) → 12 ≤ end
    → room ≡ message ++ rest → length message ≡ end
    → part ≡ octets ++ drop (length octets) (take (length room - end) (drop end room))
    → new ≡ paste (put_mid end (length room - end) room part) 10
    (two_octets (additional_count (put_mid end (length room - end) room part) + 1))
    → new ≡ join message octets ++ drop (length octets) rest
put_and_counted room message rest octets part new end le is len part_is new_is =
    let parts = rest_of room message rest end is len in
    let long : length (drop end room) ≤ length room - end = omega (arith, length-drop end room) in
    let inner : take (length room - end) (drop end room) ≡ rest = take_all (length room - end) (drop end room) long
    ∙ parts.1 in
    let none : drop (length room - end) (drop end room) ≡ [] = drop_all (length room - end) (drop end room) long in
    let behind : part ≡ octets ++ drop (length octets) rest = part_is ∙ ap (λ l. octets ++ drop (length octets) l) inner in
    let whole : put_mid end (length room - end) room part ≡ message ++ (octets ++ drop (length octets) rest) =
    (λ i. parts.0 i ++ (behind i ++ none i)) ∙ ap (λ l. message ++ l) (append-nil (octets ++ drop (length octets) rest)) in
    let header : 12 ≤ length message = omega (arith, le, len) in
    new_is
    ∙ ap (λ (l : List ℕ). paste l 10 (two_octets (additional_count l + 1))) whole
    ∙ counted message (octets ++ drop (length octets) rest) header
    ∙ sym (append_assoc (slice_range message 0 10 ++ two_octets (additional_count message + 1)
    ++ slice_range message 12 (length message)) octets (drop (length octets) rest))

-- what a room has at its start
pub start_filled : (result : Result (Unit {0}) EmitError) (u : Unit {0}) (room final : List ℕ)
    (written : Result (List ℕ) EmitError) (octets : List ℕ) → result ≡ Ok u → written ≡ Ok octets
    → FillsStart result room final written → final ≡ octets ++ drop (length octets) room
start_filled (Ok v) u room final (Ok given) octets done is fills =
    fills ∙ ap (λ (l : List ℕ). l ++ drop (length l) room) (same is)
  where
    same : (let ok : Result (List ℕ) EmitError = Ok given in ok) ≡ Ok octets → given ≡ octets
    same e = cc
start_filled (Ok v) u room final (Err e) octets done is fills = absurd fills
start_filled (Err e) u room final written octets done is fills = absurd fills

-- what fits a room that is written
pub fits_room : (written : Result (List ℕ) EmitError) (octets room : List ℕ) → written ≡ Ok octets
    → length octets ≤ length room → FitsRoom written room
fits_room (Ok given) octets room is fits = subst (λ (l : List ℕ). length l ≤ length room) (sym (same is)) fits
  where
    same : (let ok : Result (List ℕ) EmitError = Ok given in ok) ≡ Ok octets → given ≡ octets
    same e = cc
fits_room (Err e) octets room is fits = absurd (no is)
  where
    no : (let failed : Result (List ℕ) EmitError = Err e in failed) ≡ Ok octets → ⊥
    no a = cc
