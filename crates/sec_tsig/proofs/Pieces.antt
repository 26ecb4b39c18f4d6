-- Equal strings of octets, piece by piece.
use Rattle.std.proofs.Common.{◌≡◌, ℕ, zero, suc, ◌+◌, ◌-◌, ◌/◌, ◌%◌, ◌^◌, ◌<◌, ◌≤◌, List, [], ◌∷◌, ◌++◌, length, take, drop}
use Rattle.std.proofs.Common.{get_or, slice_range, refl, sym, ap, ◌∙◌, append_assoc, arith}
use Rattle.std.specs.Int.{w16, w32, from_be_bytes}
use Rattle.std.specs.List.{AllByRecursion}
use Rattle.std.proofs.Math.Seq.{take-add}
use Rattle.std.proofs.lemmas.List.{drop-append-le, drop-drop, drop_at, get_or-drop, get_or-take, length-drop, length-map}
use Rattle.std.proofs.lemmas.List.{length-take, take-append-le, take_at}
use Rattle.std.proofs.lemmas.Nat.{be_bytes_2, from_be_bytes-to_be_bytes_2, from_be_bytes-to_be_bytes_4}
use Rattle.dns_wire.specs.Octets.{AreOctets, lower, two_octets, four_octets, six_octets}
use Rattle.dns_names.specs.Names.{wire, low, IsLabel}
use Rattle.dns_grammar.specs.Extents.{SameOctets}

-- what is equal begins with what is equal, where that has one length
pub split : (a b x y : List ℕ) → length a ≡ length b → a ++ x ≡ b ++ y → (a ≡ b) × (x ≡ y)
split [] [] x y l e = (refl, e)
split [] (b ∷ bs) x y l e = absurd (omega (arith, l))
split (b ∷ bs) [] x y l e = absurd (omega (arith, l))
split (b ∷ bs) (c ∷ cs) x y l e =
    let head : b ≡ c = cc in
    let rest : bs ++ x ≡ cs ++ y = cc in
    let same = split bs cs x y (omega (arith, l)) rest in
    (cc (head, same.0), same.1)

pub two_same : (n k : ℕ) → n < 2 ^ 16 → k < 2 ^ 16 → two_octets n ≡ two_octets k → n ≡ k
two_same n k lt lt1 e =
    sym (from_be_bytes-to_be_bytes_2 n lt) ∙ ap (from_be_bytes w16) e ∙ from_be_bytes-to_be_bytes_2 k lt1

pub six_same : (n k : ℕ) → n < 2 ^ 48 → k < 2 ^ 48 → six_octets n ≡ six_octets k → n ≡ k
six_same n k lt lt1 e =
    let s = split (two_octets (n / 2 ^ 32)) (two_octets (k / 2 ^ 32)) (four_octets (n % 2 ^ 32))
    (four_octets (k % 2 ^ 32)) refl e in
    let high = two_same (n / 2 ^ 32) (k / 2 ^ 32) (omega arith) (omega arith) s.0 in
    let behind : n % 2 ^ 32 ≡ k % 2 ^ 32 = sym (from_be_bytes-to_be_bytes_4 (n % 2 ^ 32) (omega arith))
    ∙ ap (from_be_bytes w32) s.1 ∙ from_be_bytes-to_be_bytes_4 (k % 2 ^ 32) (omega arith) in
    omega (arith, high, behind)

-- ---- names

-- a label that isn't empty
abbrev pub IsFilled : List ℕ → Type 0
IsFilled label = 0 < length label

-- No wire form of a name begins another.
pub one_name : (n z : List (List ℕ)) (x y : List ℕ) → AllByRecursion IsFilled n → AllByRecursion IsFilled z
    → wire n ++ x ≡ wire z ++ y → (n ≡ z) × (x ≡ y)
one_name [] [] x y p q e = (refl, cc)
one_name [] (l ∷ ls) x y p q e = let first : 0 ≡ length l = cc in absurd (omega (arith, q.0, first))
one_name (l ∷ ls) [] x y p q e = let first : length l ≡ 0 = cc in absurd (omega (arith, p.0, first))
one_name (l ∷ ls) (k ∷ ks) x y p q e =
    let len : length l ≡ length k = cc in
    let rest : (l ++ wire ls) ++ x ≡ (k ++ wire ks) ++ y = cc in
    let s = split l k (wire ls ++ x) (wire ks ++ y) len
    (sym (append_assoc l (wire ls) x) ∙ rest ∙ append_assoc k (wire ks) y) in
    let same = one_name ls ks x y p.1 q.1 s.1 in
    (cc (s.0, same.0), same.1)

pub filled_low : (n : List (List ℕ)) → AllByRecursion IsLabel n → AllByRecursion IsFilled (low n)
filled_low [] p = tt
filled_low (l ∷ ls) p = (omega (arith, length-map l lower, p.0.nonempty), filled_low ls p.1)

-- ---- parts of a string

-- a part up to b and the part from there on
pub slice_split : (m : List ℕ) (a b c : ℕ) → a ≤ b → b ≤ c
    → slice_range m a c ≡ slice_range m a b ++ slice_range m b c
slice_split m a b c le le1 =
    let sum : (b - a) + (c - b) ≡ c - a = omega arith in
    let at : a + (b - a) ≡ b = omega arith in
    ap (λ k. take k (drop a m)) (sym sum) ∙ take-add (b - a) (c - b) (drop a m)
    ∙ ap (λ r. take (b - a) (drop a m) ++ take (c - b) r) (drop-drop (b - a) a m ∙ ap (λ k. drop k m) at)

pub length-slice : (m : List ℕ) (a b : ℕ) → a ≤ b → b ≤ length m → length (slice_range m a b) ≡ b - a
length-slice m a b le le1 = simp (length-take, length-drop) (omega arith)

-- equal parts have the same octets
pub slice_same : (m n : List ℕ) (a b : ℕ) → slice_range m a b ≡ slice_range n a b → SameOctets m n a b
slice_same m n a b e k ak kb =
    let lt : k - a < b - a = omega arith in
    let at : a + (k - a) ≡ k = omega arith in
    let side : (l : List ℕ) → get_or (slice_range l a b) (k - a) 0 ≡ get_or l k 0 = λ l.
    get_or-take (b - a) (drop a l) (k - a) 0 lt ∙ get_or-drop a l (k - a) 0 ∙ ap (λ j. get_or l j 0) at in
    sym (side m) ∙ ap (λ xs. get_or xs (k - a) 0) e ∙ side n

-- a part of what a string begins with
pub front_slice : (front rest : List ℕ) (a b : ℕ) → a ≤ b → b ≤ length front
    → slice_range (front ++ rest) a b ≡ slice_range front a b
front_slice front rest a b le le1 =
    ap (λ l. take (b - a) l) (drop-append-le a front rest (omega arith))
    ∙ take-append-le (b - a) (drop a front) rest (simp length-drop (omega arith))

-- a part right after what a string begins with
pub next_slice : (front part rest : List ℕ) (a b : ℕ) → length front ≡ a → length part ≡ b - a
    → slice_range (front ++ (part ++ rest)) a b ≡ part
next_slice front part rest a b at long =
    ap (λ l. take (b - a) l) (drop_at front (part ++ rest) a at) ∙ take_at part rest (b - a) long

-- ---- octets

pub at_index : (m : List ℕ) (k : ℕ) → AreOctets m → get_or m k 0 < 256
at_index [] zero h = omega arith
at_index [] (suc k) h = omega arith
at_index (x ∷ m) zero h = h.0
at_index (x ∷ m) (suc k) h = at_index m k h.1

pub taken : (n : ℕ) (m : List ℕ) → AreOctets m → AreOctets (take n m)
taken zero m h = tt
taken (suc n) [] h = tt
taken (suc n) (x ∷ m) h = (h.0, taken n m h.1)

pub dropped : (n : ℕ) (m : List ℕ) → AreOctets m → AreOctets (drop n m)
dropped zero m h = h
dropped (suc n) [] h = tt
dropped (suc n) (x ∷ m) h = dropped n m h.1

pub two_below : (x : List ℕ) → AreOctets x → from_be_bytes w16 x < 2 ^ 16
two_below x h = omega (arith, at_index x 0 h, at_index x 1 h)

-- the two octets of a number
pub number_octets : (m : List ℕ) (a n : ℕ) → AreOctets m → a + 2 ≤ length m
    → n ≡ from_be_bytes w16 (slice_range m a (a + 2)) → two_octets n ≡ slice_range m a (a + 2)
number_octets m a n octets le is =
    let part : List ℕ = slice_range m a (a + 2) in
    be_bytes_2 part n (length-slice m a (a + 2) (omega arith) le ∙ omega arith)
    (λ i. at_index part i (taken (a + 2 - a) (drop a m) (dropped a m octets))) is

pub four_below : (x : List ℕ) → AreOctets x → from_be_bytes w32 x < 2 ^ 32
four_below x h = omega (arith, at_index x 0 h, at_index x 1 h, at_index x 2 h, at_index x 3 h)
