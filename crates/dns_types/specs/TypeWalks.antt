-- Sets of types as they are held and walked.
use Rattle.std.specs.Prelude.{◌≡◌, ℕ, ◌-◌, ◌^◌, ◌≤◌, ◌<◌, Bool, true, false, IsTrue, List, filter, Option}
use Rattle.std.specs.List.{range_with_len}
use Rattle.std.specs.Option.{MatchOption}
use Rattle.dns_types.specs.TypeSets.{Block, has_type_bit, block_has, is_bitmap, has_type, is_ascending, ascend_from}
use Rattle.dns_types.specs.TypeSets.{blocks_of, form_of}

-- the octets of a set are a bitmap, and beside them stands the form of the set where their windows do not ascend
pub record HoldsTypes (octets : List ℕ) (ascending : Option (List ℕ)) : Type 0 where
  pub bitmap : IsTrue (is_bitmap octets)
  pub ascends : MatchOption ascending (IsTrue (is_ascending octets)) (λ form. form ≡ form_of (has_type octets))

-- the types of a set from the lowest on
unfoldable pub types_from : List ℕ → ℕ → List ℕ
types_from octets lowest = filter (has_type octets) (range_with_len lowest (2 ^ 16 - lowest))

-- a walk over types: the windows of the blocks that are left ascend, and the lowest that may come is a type or 2^16
pub record IsTypeWalk (octets : List ℕ) (lowest : ℕ) : Type 0 where
  pub window : ℕ
  pub ascends : IsTrue (ascend_from window (blocks_of octets))
  pub within : lowest ≤ 2 ^ 16

-- the first number from `from` on that passes a test
pub record IsFirstFrom (test : ℕ → Bool) (from n : ℕ) : Type 0 where
  pub ahead : from ≤ n
  pub passes : test n ≡ true
  pub others : (k : ℕ) → from ≤ k → k < n → test k ≡ false

-- the first bit from `from` on that is set
abbrev pub NextBit : List ℕ → ℕ → Option ℕ → Type 0
NextBit bits from found = MatchOption found ((k : ℕ) → from ≤ k → has_type_bit bits k ≡ false)
    (IsFirstFrom (has_type_bit bits) from)

-- the first type of a block from `from` on
abbrev pub NextType : Block → ℕ → Option ℕ → Type 0
NextType block from found = MatchOption found ((t : ℕ) → from ≤ t → block_has t block ≡ false)
    (IsFirstFrom (λ t. block_has t block) from)
