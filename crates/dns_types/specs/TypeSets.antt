-- Sets of record types as they stand in octets: type bitmaps (RFC 4034 4.1.2, RFC 5155 3.2.1).
use Rattle.std.specs.Prelude.{◌≡◌, ℕ, zero, suc, ◌+◌, ◌-◌, ◌*◌, ◌/◌, ◌%◌, ◌^◌, ◌≤◌, ◌<◌, Bool, true, ◌&&◌, ◌==◌, IsTrue}
use Rattle.std.specs.Prelude.{List, [], ◌∷◌, length, take, drop, map, filter, slice_range, slice_index, All, Option}
use Rattle.std.specs.Prelude.{Some, None, Result, Ok, Err, nat_lt, nat_le, nat_eq, if◌then◌else◌}
use Rattle.std.specs.Int.{bit_at}
use Rattle.std.specs.List.{flat_map, list_any, range_with_len, sum}
use Rattle.dns_wire.specs.declared.error.DecodeError.{DecodeError}
use Rattle.dns_wire.specs.declared.error.DecodeError.TheVariants.{BitmapMalformed, InsufficientBytes}

-- ---- what a bitmap is

-- a block: the number of a window of 256 types, and octets with a bit for each of its first types
pub record Block : Type 0 where
  pub window : ℕ
  pub bits : List ℕ

-- a block has 1 to 32 octets of bits
pub record IsBlock (block : Block) : Type 0 where
  pub nonempty : 0 < length block.bits
  pub at_most_32 : length block.bits ≤ 32

-- the octets of a block: its window, how many octets of bits there are, and these
abbrev pub block_octets : Block → List ℕ
block_octets block = block.window ∷ length block.bits ∷ block.bits

-- The octets are these blocks, one behind the other. Windows may stand in any order and again, and no block at all is
-- allowed.
pub record AreBlocks (octets : List ℕ) (blocks : List Block) : Type 0 where
  pub each : All IsBlock blocks
  pub whole : octets ≡ flat_map block_octets blocks

-- the octets are a bitmap
abbrev pub IsBitmap : List ℕ → Type 0
IsBitmap octets = (blocks : List Block) × AreBlocks octets blocks

-- ---- its set of types

-- whether bit n is set, from the highest bit of the first octet on; bits behind the octets are not
abbrev pub has_type_bit : List ℕ → ℕ → Bool
has_type_bit bits n = nat_lt (n / 8) (length bits) && (bit_at (slice_index bits (n / 8)) (7 - n % 8) == 1)

-- whether the bit of a type is set in a block: type 256 w + n has bit n of window w
abbrev pub block_has : ℕ → Block → Bool
block_has t block = nat_eq block.window (t / 256) && has_type_bit block.bits (t % 256)

-- the type is in the set of a bitmap: its bit is set in one of the blocks
pub record HasType (octets : List ℕ) (t : ℕ) : Type 0 where
  pub blocks : List Block
  pub are_blocks : AreBlocks octets blocks
  pub set : IsTrue (list_any (block_has t) blocks)

-- ---- how a bitmap is read

-- whether a block may have so many octets of bits, of those that follow
abbrev pub is_block : ℕ → List ℕ → Bool
is_block len rest = nat_le 1 len && nat_le len 32 && nat_le len (length rest)

-- the block at the front of the octets, and the octets behind it
abbrev pub first_block : List ℕ → Option (Block × List ℕ)
first_block [] = None
first_block (window ∷ []) = None
first_block (window ∷ len ∷ rest) = if is_block len rest
    then Some (record { window = window; bits = take len rest }, drop len rest) else None

-- a block before those behind it, or none
abbrev pub before_blocks : Option (Block × List ℕ) → (List ℕ → List Block) → List Block
before_blocks None behind = []
before_blocks (Some x) behind = x.0 ∷ behind x.1

-- the blocks at the front of the octets, at most so many
abbrev pub blocks_up_to : ℕ → List ℕ → List Block
blocks_up_to zero octets = []
blocks_up_to (suc most) octets = before_blocks (first_block octets) (λ rest. blocks_up_to most rest)

-- the blocks at the front of the octets
unfoldable pub blocks_of : List ℕ → List Block
blocks_of octets = blocks_up_to (length octets) octets

-- whether the octets are a bitmap: they are the blocks at their front
unfoldable pub is_bitmap : List ℕ → Bool
is_bitmap octets = nat_eq (length (flat_map block_octets (blocks_of octets))) (length octets)

-- whether the type's bit is set in one of the blocks
unfoldable pub has_type : List ℕ → ℕ → Bool
has_type octets t = list_any (block_has t) (blocks_of octets)

-- the types of the set, ascending and each once
unfoldable pub types : List ℕ → List ℕ
types octets = filter (has_type octets) (range_with_len 0 (2 ^ 16))

-- whether each window is above the one before it, and the first not below the lowest
abbrev pub ascend_from : ℕ → List Block → Bool
ascend_from lowest [] = true
ascend_from lowest (block ∷ blocks) = nat_le lowest block.window && ascend_from (block.window + 1) blocks

-- whether the windows strictly ascend
unfoldable pub is_ascending : List ℕ → Bool
is_ascending octets = ascend_from 0 (blocks_of octets)

-- A set stands from p up to e: its octets, which are a bitmap, and q is the place behind them.
abbrev pub TypesAt : List ℕ → ℕ → ℕ → List ℕ → ℕ → Type 0
TypesAt m p e set q = (set ≡ slice_range m p e) × IsBitmap set × (q ≡ e)

-- What reading a set gives from p up to e, where its octets end: these octets, and that place. Octets that are no
-- bitmap are `BitmapMalformed`.
abbrev pub types_at : List ℕ → ℕ → ℕ → Result (List ℕ × ℕ) DecodeError
types_at m p e = if is_bitmap (slice_range m p e) then Ok (slice_range m p e, e) else Err BitmapMalformed

-- What reading a set of len octets from p gives. `InsufficientBytes` where fewer are left comes first.
abbrev pub type_set_at : List ℕ → ℕ → ℕ → Result (List ℕ × ℕ) DecodeError
type_set_at m p len = if nat_lt (length m) (p + len) then Err InsufficientBytes else types_at m p (p + len)

-- ---- the one form in which a set is written (RFC 4034 4.1.2)

-- whether a type is one of these
abbrev pub is_one_of : List ℕ → ℕ → Bool
is_one_of types t = list_any (nat_eq t) types

-- the octet for the eight types from t on, the first of them in its highest bit
unfoldable pub octet_of : (ℕ → Bool) → ℕ → ℕ
octet_of has t = sum (map (λ b. if has (t + b) then 2 ^ (7 - b) else 0) (range_with_len 0 8))

-- the 32 octets for the types of a window
unfoldable pub window_bits : (ℕ → Bool) → ℕ → List ℕ
window_bits has w = map (λ i. octet_of has (256 * w + 8 * i)) (range_with_len 0 32)

-- an octet before octets that do not end in zero octets; a zero octet alone is left out
abbrev pub before_trimmed : ℕ → List ℕ → List ℕ
before_trimmed octet [] = if nat_eq octet 0 then [] else octet ∷ []
before_trimmed octet (next ∷ octets) = octet ∷ next ∷ octets

-- octets without the zero octets at their end
abbrev pub trimmed : List ℕ → List ℕ
trimmed [] = []
trimmed (octet ∷ octets) = before_trimmed octet (trimmed octets)

-- a block, and nothing where it has no bits
abbrev pub block_unless_empty : ℕ → List ℕ → List ℕ
block_unless_empty w [] = []
block_unless_empty w (octet ∷ octets) = block_octets (record { window = w; bits = octet ∷ octets })

-- a window: its block up to the last octet that has a type, and nothing where none has
unfoldable pub window_octets : (ℕ → Bool) → ℕ → List ℕ
window_octets has w = block_unless_empty w (trimmed (window_bits has w))

-- the form of a set: its windows ascending
unfoldable pub form_of : (ℕ → Bool) → List ℕ
form_of has = flat_map (window_octets has) (range_with_len 0 256)
