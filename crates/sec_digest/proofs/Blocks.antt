-- A key as a block of masked octets.
use Rattle.std.proofs.Common.{◌≡◌, ℕ, zero, suc, ◌+◌, ◌-◌, ◌≤◌, ◌<◌, List, ◌++◌, length, map, take, get_or, set, refl}
use Rattle.std.proofs.Common.{append_assoc, arith}
use Rattle.std.specs.Prelude.{bit_xor, replicate}
use Rattle.std.specs.Int.Bits.{xor_zero_l}
use Rattle.std.proofs.lemmas.List.{map-append, length-map, length-take, set_at, take_more, take_all}
use Rattle.sec_digest.specs.Hmac.{padded_key}

-- the octets of a key xor the pad
abbrev pub masked : ℕ → List ℕ → List ℕ
masked pad key = map (λ octet. bit_xor octet pad) key

masked-zeros : (n pad : ℕ) → masked pad (replicate n 0) ≡ replicate n pad
masked-zeros zero pad = refl
masked-zeros (suc n) pad = rw (xor_zero_l pad, masked-zeros n pad) refl

pub one_more : (key block : List ℕ) (n i pad : ℕ) → block ≡ masked pad (take i key) ++ replicate (n - i) pad
    → i < length key → length key ≤ n
    → set block i (bit_xor (get_or key i 0) pad) ≡ masked pad (take (i + 1) key) ++ replicate (n - (i + 1)) pad
one_more key block n i pad e lt le =
    let more : n - i ≡ suc (n - (i + 1)) = omega arith in
    let len : length (masked pad (take i key)) ≡ i = simp (length-map, length-take) (omega arith) in
    let store = set_at (masked pad (take i key)) pad (replicate (n - (i + 1)) pad) (bit_xor (get_or key i 0) pad) i len
    in
    rw (e, more, store, take_more key i 0 lt, map-append, append_assoc) refl

pub whole : (key block : List ℕ) (n i pad : ℕ) → block ≡ masked pad (take i key) ++ replicate (n - i) pad
    → length key ≤ i → i ≤ length key → block ≡ padded_key n key pad
unfolding padded_key
whole key block n i pad e le ge =
    let is : i ≡ length key = omega arith in
    rw (
      e,
      take_all i key le,
      is,
      map-append (λ octet. bit_xor octet pad) key (replicate (n - length key) 0),
      masked-zeros (n - length key) pad,
    ) refl
