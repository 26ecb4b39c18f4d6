-- One type after the other.
use Rattle.std.proofs.Common.{◌≡◌, ℕ, zero, suc, ◌+◌, ◌-◌, ◌/◌, ◌%◌, ◌^◌, ◌<◌, ◌≤◌, Bool, true, false, cond, ◌&&◌}
use Rattle.std.proofs.Common.{IsTrue, List, [], ◌∷◌, Some, None, refl, ap, sym, ◌∙◌, subst, arith}
use Rattle.std.specs.Prelude.{filter, nat_eq, nat_le}
use Rattle.std.specs.List.{list_any, range_with_len}
use Rattle.std.proofs.lemmas.Bool.{and_parts, leb-true, ne_eqb, eqb-true, or_from}
use Rattle.dns_types.specs.TypeSets.{Block, has_type_bit, first_block, blocks_of, block_has, has_type, ascend_from}
use Rattle.dns_types.specs.TypeSets.{is_ascending, types, form_of}
use Rattle.dns_types.specs.TypeWalks.{types_from, IsTypeWalk, HoldsTypes, IsFirstFrom}
use Rattle.dns_types.proofs.TypeBlocks.{found, passed, has_none, ascends_more}
use Rattle.dns_types.proofs.TypeBits.{filter_agree_within}
use Rattle.dns_types.proofs.FormLaws.{form_ascends, form_types}

-- ---- numbers that pass a test

module _ (p : ℕ → Bool) where
  pass_none : (a n : ℕ) → ((t : ℕ) → a ≤ t → p t ≡ false) → filter p (range_with_len a n) ≡ []
  pass_none a zero h = refl
  pass_none a (suc n) h = ap (λ b. cond b (a ∷ filter p (range_with_len (a + 1) n))
      (filter p (range_with_len (a + 1) n))) (h a (omega arith)) ∙ pass_none (a + 1) n (λ t k. h t (omega arith))

  skip : (k a b n : ℕ) → a + k ≡ b → ((t : ℕ) → a ≤ t → t < b → p t ≡ false)
      → filter p (range_with_len a (k + n)) ≡ filter p (range_with_len b n)
  skip zero a b n e h =
      let here : a ≡ b = omega arith in
      let none : zero + n ≡ n = omega arith in
      λ i. filter p (range_with_len (here i) (none i))
  skip (suc k) a b n e h =
      let more : suc k + n ≡ suc (k + n) = omega arith in
      ap (λ m. filter p (range_with_len a m)) more
      ∙ ap (λ c. cond c (a ∷ filter p (range_with_len (a + 1) (k + n))) (filter p (range_with_len (a + 1) (k + n))))
      (h a (omega arith) (omega arith))
      ∙ skip k (a + 1) b n (omega arith) (λ t ge lt. h t (omega arith) lt)

  -- the first that passes, and those behind it
  pub first_passes : (limit lowest n : ℕ) → n < limit → IsFirstFrom p lowest n
      → filter p (range_with_len lowest (limit - lowest)) ≡ n ∷ filter p (range_with_len (n + 1) (limit - (n + 1)))
  first_passes limit lowest n small first =
      let ahead : lowest ≤ n = first.ahead in
      let parts : limit - lowest ≡ (n - lowest) + suc (limit - (n + 1)) = omega arith in
      ap (λ m. filter p (range_with_len lowest m)) parts
      ∙ skip (n - lowest) lowest n (suc (limit - (n + 1))) (omega arith) first.others
      ∙ ap (λ b. cond b (n ∷ filter p (range_with_len (n + 1) (limit - (n + 1))))
      (filter p (range_with_len (n + 1) (limit - (n + 1))))) first.passes

-- ---- blocks whose windows ascend

-- no block has a type of a lower window
lower_none : (blocks : List Block) (lowest t : ℕ) → IsTrue (ascend_from lowest blocks) → t / 256 < lowest
    → list_any (block_has t) blocks ≡ false
lower_none [] lowest t h lt = refl
lower_none (block ∷ blocks) lowest t h lt =
    let p = and_parts (nat_le lowest block.window) (ascend_from (block.window + 1) blocks) h in
    let le : lowest ≤ block.window = leb-true lowest block.window p.0 in
    let other : nat_eq block.window (t / 256) ≡ false = ne_eqb block.window (t / 256) (λ e. omega (arith, e)) in
    or_from (block_has t block) (list_any (block_has t) blocks)
    (ap (λ b. b && has_type_bit block.bits (t % 256)) other)
    (lower_none blocks (block.window + 1) t p.1 (omega arith))

-- the blocks behind ascend too
pub walk_on : (octets : List ℕ) (x : Block × List ℕ) (window : ℕ) → first_block octets ≡ Some x
    → IsTrue (ascend_from window (blocks_of octets)) → IsTrue (ascend_from (x.0.window + 1) (blocks_of x.1))
walk_on octets x window h up = (and_parts (nat_le window x.0.window) (ascend_from (x.0.window + 1) (blocks_of x.1))
    (sym (ascends_more octets x window h) ∙ up)).1

-- the window of a block's type
window_of : (block : Block) (t : ℕ) → block_has t block ≡ true → block.window ≡ t / 256
window_of block t h = eqb-true block.window (t / 256)
    (and_parts (nat_eq block.window (t / 256)) (has_type_bit block.bits (t % 256)) h).0

-- the first type of the first block is the first of all
pub first_of_all : (octets : List ℕ) (x : Block × List ℕ) (window lowest n : ℕ) → first_block octets ≡ Some x
    → IsTrue (ascend_from window (blocks_of octets)) → IsFirstFrom (λ t. block_has t x.0) lowest n
    → IsFirstFrom (has_type octets) lowest n
unfolding has_type
first_of_all octets x window lowest n h up first =
    let here : x.0.window ≡ n / 256 = window_of x.0 n first.passes in
    record {
      ahead = first.ahead;
      passes = found octets x n h first.passes;
      others = λ t ge lt. passed octets x t h (first.others t ge lt)
          ∙ lower_none (blocks_of x.1) (x.0.window + 1) t (walk_on octets x window h up) (omega (arith, here, lt));
    }

pub yields : (octets : List ℕ) (x : Block × List ℕ) (window lowest n : ℕ) → first_block octets ≡ Some x
    → IsTrue (ascend_from window (blocks_of octets)) → n < 2 ^ 16 → IsFirstFrom (λ t. block_has t x.0) lowest n
    → types_from octets lowest ≡ n ∷ types_from octets (n + 1)
unfolding types_from
yields octets x window lowest n h up small first = first_passes (has_type octets) (2 ^ 16) lowest n small
    (first_of_all octets x window lowest n h up first)

-- a block without a further type is passed
pub passes_on : (octets : List ℕ) (x : Block × List ℕ) (lowest : ℕ) → first_block octets ≡ Some x
    → ((t : ℕ) → lowest ≤ t → block_has t x.0 ≡ false) → types_from octets lowest ≡ types_from x.1 lowest
unfolding types_from
passes_on octets x lowest h none = filter_agree_within (has_type octets) (has_type x.1) lowest (2 ^ 16 - lowest)
    (λ t ge lt. passed octets x t h (none t ge))

pub ends : (octets : List ℕ) (lowest : ℕ) → first_block octets ≡ None → types_from octets lowest ≡ []
unfolding types_from
ends octets lowest h = pass_none (has_type octets) lowest (2 ^ 16 - lowest) (λ t ge. has_none octets t h)

-- a walk begins
pub from_first : (octets : List ℕ) → types_from octets 0 ≡ types octets
unfolding types_from types
from_first octets = refl

-- octets that are walked for a set
pub record Walks (octets walked : List ℕ) : Type 0 where
  pub is_walk : IsTypeWalk walked 0
  pub all : types_from walked 0 ≡ types octets

walks : (octets : List ℕ) → IsTrue (is_ascending octets) → IsTypeWalk octets 0
unfolding is_ascending
walks octets h = record { window = 0; ascends = h; within = omega arith }

pub walks_octets : (octets : List ℕ) → HoldsTypes octets None → Walks octets octets
walks_octets octets h = record { is_walk = walks octets h.ascends; all = from_first octets }

pub walks_form : (octets form : List ℕ) → HoldsTypes octets (Some form) → Walks octets form
unfolding types
walks_form octets form h =
    let is : form ≡ form_of (has_type octets) = h.ascends in
    subst (Walks octets) (sym is) (record {
      is_walk = walks (form_of (has_type octets))
          (form_ascends (has_type octets));
      all = from_first (form_of (has_type octets)) ∙ form_types (has_type octets);
    })
