-- Reading from left to right within a string of octets. A reading gives a value and the place behind it, or the first
-- fault.
use Rattle.std.specs.Prelude.{◌≡◌, ◌⊎◌, ℕ, zero, suc, ◌+◌, ◌*◌, ◌^◌, ◌≤◌, List, [], ◌∷◌, length, take, drop, nat_le}
use Rattle.std.specs.Prelude.{if◌then◌else◌, Result, Ok, Err}
use Rattle.std.specs.Int.{Width, w16, w32, byte_len, from_be_bytes}
use Rattle.dns_wire.specs.declared.decoder.BinDecoder.{BinDecoder}
use Rattle.dns_wire.specs.declared.error.DecodeError.{DecodeError}
use Rattle.dns_wire.specs.declared.error.DecodeError.TheVariants as faults

-- all octets of a decoder
abbrev pub octets : BinDecoder → List ℕ
octets decoder = decoder.buffer.now

-- the place of the next octet
abbrev pub place : BinDecoder → ℕ
place decoder = decoder.index

-- what is read behind a field, where the field was read
infixl 10 ◌>>=◌
abbrev pub ◌>>=◌ : {A B E : Type 0} → Result A E → (A → Result B E) → Result B E
(Ok x) >>= f = f x
(Err fault) >>= f = Err fault

-- ---- fields read

-- n octets at p of m, which end at or before e
unfoldable pub octets_at : ℕ → List ℕ → ℕ → ℕ → Result (List ℕ × ℕ) DecodeError
octets_at n m p e = if nat_le (p + n) e then Ok (take n (drop p m), p + n) else Err faults.InsufficientBytes

-- a number at p, the highest octet first
unfoldable pub number_at : Width → List ℕ → ℕ → ℕ → Result (ℕ × ℕ) DecodeError
number_at w m p e = do
  octets ← octets_at (byte_len w) m p e
  Ok (from_be_bytes w octets.0, octets.1)

-- a number of six octets at p
unfoldable pub time_at : List ℕ → ℕ → ℕ → Result (ℕ × ℕ) DecodeError
time_at m p e = do
  octets ← octets_at 6 m p e
  Ok (from_be_bytes w16 (take 2 octets.0) * 2 ^ 32 + from_be_bytes w32 (drop 2 octets.0), octets.1)

-- octets behind their count
unfoldable pub counted_at : Width → List ℕ → ℕ → ℕ → Result (List ℕ × ℕ) DecodeError
counted_at w m p e = do
  count ← number_at w m p e
  octets_at count.0 m count.1 e

-- so many values, one behind the other from p
unfoldable pub each_at : {A E : Type 0} → (ℕ → Result (A × ℕ) E) → ℕ → ℕ → Result (List A × ℕ) E
each_at read zero p = Ok ([], p)
each_at read (suc n) p = do
  x ← read p
  xs ← each_at read n x.1
  Ok (x.0 ∷ xs.0, xs.1)

-- ---- fields that stand

-- x is the n octets of m from p up to q, which is at or before e
pub record OctetsAt (n : ℕ) (m : List ℕ) (p e : ℕ) (x : List ℕ) (q : ℕ) : Type 0 where
  pub within : e ≤ length m
  pub end : q ≡ p + n
  pub inside : q ≤ e
  pub value : x ≡ take n (drop p m)

-- n is the number in the octets of m from p up to q, the highest first
abbrev pub NumberAt : Width → List ℕ → ℕ → ℕ → ℕ → ℕ → Type 0
NumberAt w m p e n q = (x : List ℕ) × OctetsAt (byte_len w) m p e x q × (n ≡ from_be_bytes w x)

-- n is the number in six octets from p up to q
abbrev pub TimeAt : List ℕ → ℕ → ℕ → ℕ → ℕ → Type 0
TimeAt m p e n q = (x : List ℕ) × OctetsAt 6 m p e x q
    × (n ≡ from_be_bytes w16 (take 2 x) * 2 ^ 32 + from_be_bytes w32 (drop 2 x))

-- x is the octets up to q behind their count, which stands at p
abbrev pub CountedAt : Width → List ℕ → ℕ → ℕ → List ℕ → ℕ → Type 0
CountedAt w m p e x q = (n : ℕ) × (r : ℕ) × NumberAt w m p e n r × OctetsAt n m r e x q

-- ---- what a call answered

-- the answer, seen by view, is what the definition gives
abbrev pub Gives : {X Y E : Type 0} → (X → Y) → Result X E → Result Y E → Type 0
Gives view (Ok x) given = given ≡ Ok (view x)
Gives view (Err e) given = given ≡ Err e

-- the same, but that `none`, want of memory, may come in place of any answer
abbrev pub GivesUnless : {X Y E : Type 0} → E → (X → Y) → Result X E → Result Y E → Type 0
GivesUnless none view (Ok x) given = given ≡ Ok (view x)
GivesUnless none view (Err e) given = (e ≡ none) ⊎ (given ≡ Err e)

-- The answer of a call that moved a decoder is what reading gives: a value and the place behind it, at or behind the
-- old place of the same octets; or the first fault, and then the decoder is as it was.
abbrev pub Reads : {X Y : Type 0} → (X → Y) → Result X DecodeError → BinDecoder → BinDecoder
    → Result (Y × ℕ) DecodeError → Type 0
Reads view (Ok x) old new given = (given ≡ Ok (view x, place new)) × (octets new ≡ octets old) × (place old ≤ place new)
Reads view (Err e) old new given = (given ≡ Err e) × (new ≡ old)

-- the same, but that want of memory may come in place of any answer
abbrev pub ReadsUnless : {X Y : Type 0} → (X → Y) → Result X DecodeError → BinDecoder → BinDecoder
    → Result (Y × ℕ) DecodeError → Type 0
ReadsUnless view (Ok x) old new given = (given ≡ Ok (view x, place new)) × (octets new ≡ octets old)
    × (place old ≤ place new)
ReadsUnless view (Err e) old new given = ((e ≡ faults.OutOfMemory) ⊎ (given ≡ Err e)) × (new ≡ old)
