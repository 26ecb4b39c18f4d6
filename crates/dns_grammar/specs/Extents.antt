-- Where the transaction signature of a message starts.
use Rattle.std.specs.Prelude.{◌≡◌, ◌⊎◌, ℕ, ◌-◌, ◌≤◌, ◌<◌, List, ◌++◌, length, slice_index, slice_range}
use Rattle.dns_grammar.specs.Fields.{Table}
use Rattle.dns_grammar.specs.Messages.{Message, Signature, HasTsig}

-- m and n have the same octets from place a up to b
abbrev pub SameOctets : List ℕ → List ℕ → ℕ → ℕ → Type 0
SameOctets m n a b = (k : ℕ) → a ≤ k → k < b → slice_index m k ≡ slice_index n k

-- ys begins with xs
abbrev pub IsPrefix : List ℕ → List ℕ → Type 0
IsPrefix xs ys = (rest : List ℕ) × (xs ++ rest ≡ ys)

-- The signature starts behind the header and within the message, and is one of the additional records that the header
-- counts.
pub record StartsInside (m : List ℕ) (message : Message) (s : Signature) : Type 0 where
  pub ahead : 12 ≤ s.start
  pub inside : s.start < length m
  pub counted : 0 < message.header.additionals

-- The signature of every message starts inside.
abbrev pub SignatureStartsInside : Table → Type 0
SignatureStartsInside table = (m : List ℕ) (message : Message) (s : Signature) (e : ℕ)
    → HasTsig table m message s e → StartsInside m message s

-- Where a signature starts is seen from the octets before it, and from none behind: two messages m and n whose
-- signatures start at s and t, which agree in their flags and counts, and of which one begins the other from place 12
-- up to the signature and some octets v or w instead, have one start.
abbrev pub OneStart : Table → Type 0
OneStart table = (m n : List ℕ) (message other : Message) (s t : Signature) (d e : ℕ) (v w : List ℕ)
    → HasTsig table m message s d
    → HasTsig table n other t e
    → SameOctets m n 2 10
    → message.header.additionals - 1 ≡ other.header.additionals - 1
    → IsPrefix (slice_range m 12 s.start ++ v) (slice_range n 12 t.start ++ w)
    ⊎ IsPrefix (slice_range n 12 t.start ++ w) (slice_range m 12 s.start ++ v)
    → s.start ≡ t.start
