-- Blocks of a bitmap, one after the other.
use Rattle.std.proofs.Common.{◌≡◌, ℕ, zero, suc, ◌+◌, ◌<◌, ◌≤◌, Bool, true, false, cond, ◌&&◌, ◌||◌, List, [], ◌∷◌}
use Rattle.std.proofs.Common.{◌++◌, length, take, drop, Option, Some, None, refl, ap, sym, ◌∙◌, subst, arith}
use Rattle.std.proofs.Common.{length-append, length-take}
use Rattle.std.specs.Prelude.{nat_eq, nat_le}
use Rattle.std.specs.List.{flat_map, list_any}
use Rattle.std.proofs.lemmas.Bool.{and_parts, leb-true, le-leb, lt-leb}
use Rattle.std.proofs.lemmas.Bool.Decides.{nat_tests}
use Rattle.dns_types.specs.TypeSets.{Block, IsBlock, block_octets, is_block, first_block, before_blocks, blocks_up_to}
use Rattle.dns_types.specs.TypeSets.{blocks_of, block_has, is_bitmap, has_type, ascend_from}

-- the block at the front of the octets, and those behind it
pub record IsFront (octets : List ℕ) (x : Block × List ℕ) : Type 0 where
  pub block : IsBlock x.0
  pub whole : octets ≡ block_octets x.0 ++ x.1

pub some_is : (x y : Block × List ℕ) → ◌≡◌ {A = Option (Block × List ℕ)} (Some x) (Some y) → x ≡ y
some_is x y h = cc

front_if : (window len : ℕ) (rest : List ℕ) (b : Bool) (x : Block × List ℕ) → is_block len rest ≡ b
    → ◌≡◌ {A = Option (Block × List ℕ)} (cond b
    (Some (record { window = window; bits = take len rest }, drop len rest)) None) (Some x)
    → IsFront (window ∷ len ∷ rest) x
front_if window len rest true x is h =
    let p = and_parts (nat_le 1 len && nat_le len 32) (nat_le len (length rest)) is in
    let q = and_parts (nat_le 1 len) (nat_le len 32) p.0 in
    let lo : 1 ≤ len = leb-true 1 len q.0 in
    let hi : len ≤ 32 = leb-true len 32 q.1 in
    let within : len ≤ length rest = leb-true len (length rest) p.1 in
    let long : length (take len rest) ≡ len = omega (arith, length-take len rest, within) in
    let this : IsFront (window ∷ len ∷ rest) (
      record { window = window; bits = take len rest },
      drop len
          rest,
    ) = record {
      block = record { nonempty = omega (arith, long, lo); at_most_32 = omega (arith, long, hi) };
      whole = ap (λ t. window ∷ len ∷ t) (sym (take_drop len rest))
          ∙ ap (λ n. window ∷ n ∷ (take len rest ++ drop len rest)) (sym long);
    } in
    subst (IsFront (window ∷ len ∷ rest)) (some_is _ x h) this
  where
    take_drop : (n : ℕ) (t : List ℕ) → take n t ++ drop n t ≡ t
    take_drop zero t = refl
    take_drop (suc n) [] = refl
    take_drop (suc n) (y ∷ t) = ap (λ z. y ∷ z) (take_drop n t)
front_if window len rest false x is h = absurd (cc)

pub front : (octets : List ℕ) (x : Block × List ℕ) → first_block octets ≡ Some x → IsFront octets x
front [] x h = absurd (cc)
front (window ∷ []) x h = absurd (cc)
front (window ∷ len ∷ rest) x h = front_if window len rest (is_block len rest) x refl h

-- what stands behind a block is shorter
pub behind : (octets : List ℕ) (x : Block × List ℕ) → first_block octets ≡ Some x → length x.1 < length octets
behind octets x h =
    let f = front octets x h in
    omega (arith, ap length f.whole, length-append x.0.bits x.1)

-- more steps than there are octets find no more blocks
same_blocks : (k j : ℕ) (octets : List ℕ) (o : Option (Block × List ℕ)) → first_block octets ≡ o → length octets ≤ k
    → length octets ≤ j → blocks_up_to k octets ≡ blocks_up_to j octets
same_blocks zero zero octets o is a b = refl
same_blocks zero (suc j) [] o is a b = refl
same_blocks zero (suc j) (x ∷ octets) o is a b = absurd (omega arith)
same_blocks (suc k) zero [] o is a b = refl
same_blocks (suc k) zero (x ∷ octets) o is a b = absurd (omega arith)
same_blocks (suc k) (suc j) octets None is a b =
    ap (λ o. before_blocks o (λ rest. blocks_up_to k rest)) is
    ∙ sym (ap (λ o. before_blocks o (λ rest. blocks_up_to j rest)) is)
same_blocks (suc k) (suc j) octets (Some x) is a b =
    let shorter : length x.1 < length octets = behind octets x is in
    ap (λ o. before_blocks o (λ rest. blocks_up_to k rest)) is
    ∙ ap (λ bs. x.0 ∷ bs) (same_blocks k j x.1 (first_block x.1) refl (omega arith) (omega arith))
    ∙ sym (ap (λ o. before_blocks o (λ rest. blocks_up_to j rest)) is)

-- the blocks, after the first
pub blocks_more : (octets : List ℕ) (x : Block × List ℕ) → first_block octets ≡ Some x
    → blocks_of octets ≡ x.0 ∷ blocks_of x.1
unfolding blocks_of
blocks_more [] x h = absurd (cc)
blocks_more (y ∷ octets) x h =
    let shorter : length x.1 < suc (length octets) = behind (y ∷ octets) x h in
    ap (λ o. before_blocks o (λ rest. blocks_up_to (length octets) rest)) h
    ∙ ap (λ bs. x.0 ∷ bs) (same_blocks (length octets) (length x.1) x.1 (first_block x.1) refl (omega arith)
    (omega arith))

pub blocks_none : (octets : List ℕ) → first_block octets ≡ None → blocks_of octets ≡ []
unfolding blocks_of
blocks_none [] h = refl
blocks_none (y ∷ octets) h = ap (λ o. before_blocks o (λ rest. blocks_up_to (length octets) rest)) h

-- ---- as a loop goes over them

-- octets are a bitmap where those behind their first block are
pub bitmap_more : (octets : List ℕ) (x : Block × List ℕ) → first_block octets ≡ Some x
    → is_bitmap x.1 ≡ is_bitmap octets
unfolding is_bitmap
bitmap_more octets x h =
    let f = front octets x h in
    let count = length (flat_map block_octets (blocks_of x.1)) in
    let len : length octets ≡ 2 + length x.0.bits + length
    x.1 = omega (arith, ap length f.whole, length-append x.0.bits x.1) in
    let all : length (flat_map block_octets (blocks_of octets)) ≡ 2 + length x.0.bits + count =
    ap (λ bs. length (flat_map block_octets bs)) (blocks_more octets x h)
    ∙ omega (arith, length-append x.0.bits (flat_map block_octets (blocks_of x.1))) in
    same_sums count (length x.1) (2 + length x.0.bits) ∙ (λ i. nat_eq (sym all i) (sym len i))
  where
    same_sums : (a b n : ℕ) → nat_eq a b ≡ nat_eq (n + a) (n + b)
    same_sums a b n = grind (arith, nat_tests)

pub bitmap_none : (octets : List ℕ) → first_block octets ≡ None → nat_eq (length octets) 0 ≡ is_bitmap octets
unfolding is_bitmap
bitmap_none octets h = turned (length octets)
    ∙ ap (λ bs. nat_eq (length (flat_map block_octets bs)) (length octets)) (sym (blocks_none octets h))
  where
    turned : (n : ℕ) → nat_eq n 0 ≡ nat_eq 0 n
    turned n = grind (arith, nat_tests)

-- a type is in the first block, or in those behind it
pub has_more : (octets : List ℕ) (x : Block × List ℕ) (t : ℕ) → first_block octets ≡ Some x
    → has_type octets t ≡ (block_has t x.0 || has_type x.1 t)
unfolding has_type
has_more octets x t h = ap (list_any (block_has t)) (blocks_more octets x h)

pub has_none : (octets : List ℕ) (t : ℕ) → first_block octets ≡ None → has_type octets t ≡ false
unfolding has_type
has_none octets t h = ap (list_any (block_has t)) (blocks_none octets h)

pub ascends_more : (octets : List ℕ) (x : Block × List ℕ) (lowest : ℕ) → first_block octets ≡ Some x
    → ascend_from lowest (blocks_of octets) ≡ (nat_le lowest x.0.window && ascend_from (x.0.window + 1) (blocks_of x.1))
ascends_more octets x lowest h = ap (ascend_from lowest) (blocks_more octets x h)

pub ascends_none : (octets : List ℕ) (lowest : ℕ) → first_block octets ≡ None
    → ascend_from lowest (blocks_of octets) ≡ true
ascends_none octets lowest h = ap (ascend_from lowest) (blocks_none octets h)

pub found : (octets : List ℕ) (x : Block × List ℕ) (t : ℕ) → first_block octets ≡ Some x → block_has t x.0 ≡ true
    → has_type octets t ≡ true
found octets x t h has = has_more octets x t h ∙ ap (λ b. b || has_type x.1 t) has

pub passed : (octets : List ℕ) (x : Block × List ℕ) (t : ℕ) → first_block octets ≡ Some x → block_has t x.0 ≡ false
    → has_type octets t ≡ has_type x.1 t
passed octets x t h has = has_more octets x t h ∙ ap (λ b. b || has_type x.1 t) has

pub descends : (octets : List ℕ) (x : Block × List ℕ) (lowest : ℕ) → first_block octets ≡ Some x → x.0.window < lowest
    → ascend_from lowest (blocks_of octets) ≡ false
descends octets x lowest h below = ascends_more octets x lowest h
    ∙ ap (λ b. b && ascend_from (x.0.window + 1) (blocks_of x.1)) (lt-leb lowest x.0.window below)

pub ascends : (octets : List ℕ) (x : Block × List ℕ) (lowest : ℕ) → first_block octets ≡ Some x → lowest ≤ x.0.window
    → ascend_from lowest (blocks_of octets) ≡ ascend_from (x.0.window + 1) (blocks_of x.1)
ascends octets x lowest h above = ascends_more octets x lowest h
    ∙ ap (λ b. b && ascend_from (x.0.window + 1) (blocks_of x.1)) (le-leb lowest x.0.window above)

-- the steps of the three loops over blocks
pub ruleset bitmap_steps = (bitmap_more, bitmap_none, behind)

pub ruleset ascending_steps = (ascends_more, ascends_none, behind)

pub ruleset member_steps = (has_more, has_none, behind)
