-- Bitmaps and their sets of types.
use Rattle.std.proofs.Common.{◌≡◌, ℕ, zero, suc, ◌+◌, ◌-◌, ◌^◌, ◌<◌, ◌≤◌, ◌↔◌, Bool, true, false, cond, IsTrue}
use Rattle.std.proofs.Common.{Contains, List, [], ◌∷◌, ◌++◌, length, take, get_or, slice_range, Option, Some, None}
use Rattle.std.proofs.Common.{Result, Ok, Err, refl, ap, sym, ◌∙◌, subst, arith, length-append, append_assoc}
use Rattle.std.proofs.Common.{append-nil}
use Rattle.std.specs.Prelude.{filter}
use Rattle.std.specs.List.{AllByRecursion, flat_map, list_any, range_with_len}
use Rattle.std.specs.List.Sorted.{IsStrictlyIncreasing}
use Rattle.std.proofs.lemmas.Bool.{eqb-true, eq-eqb, le-ltb}
use Rattle.std.proofs.lemmas.List.{take_at, drop_at}
use Rattle.std.proofs.lemmas.List.Elements.{All-from_recursion, recursion_from_All, All-contains, filter_passes}
use Rattle.std.proofs.lemmas.List.FromFn.{length-range_with_len, get_or-range_with_len}
use Rattle.std.proofs.lemmas.List.Kept.{IsStrictlyIncreasing-filter}
use Rattle.dns_wire.specs.declared.error.DecodeError.{DecodeError}
use Rattle.dns_wire.specs.declared.error.DecodeError.TheVariants.{BitmapMalformed, InsufficientBytes}
use Rattle.dns_types.specs.TypeSets.{Block, IsBlock, AreBlocks, IsBitmap, HasType, block_octets, first_block, blocks_of}
use Rattle.dns_types.specs.TypeSets.{block_has, is_bitmap, has_type, types, types_at, type_set_at, is_one_of, form_of}
use Rattle.dns_types.proofs.TypeBlocks.{front, behind, blocks_more, blocks_none}
use Rattle.dns_types.proofs.FormLaws.{blocks_back, form_is_bitmap, form_has}
use Rattle.dns_types.proofs.EqualForms.{one_of_decides}

-- ---- blocks

-- octets begin with the blocks at their front
record Begins (octets : List ℕ) : Type 0 where
  each : AllByRecursion IsBlock (blocks_of octets)
  left : List ℕ
  whole : octets ≡ flat_map block_octets (blocks_of octets) ++ left

begins_by : (k : ℕ) (octets : List ℕ) (o : Option (Block × List ℕ)) → first_block octets ≡ o → length octets < k
    → Begins octets
begins_by zero octets o is h = absurd (omega arith)
begins_by (suc k) octets None is h =
    let none : blocks_of octets ≡ [] = blocks_none octets is in
    record {
      each = subst (AllByRecursion IsBlock) (sym none) tt;
      left = octets;
      whole = ap (λ bs. flat_map block_octets bs ++ octets) (sym none);
    }
begins_by (suc k) octets (Some x) is h =
    let f = front octets x is in
    let shorter : length x.1 < length octets = behind octets x is in
    let b = begins_by k x.1 (first_block x.1) refl (omega arith) in
    let more : blocks_of octets ≡ x.0 ∷ blocks_of x.1 = blocks_more octets x is in
    record {
      each = subst (AllByRecursion IsBlock) (sym more) (f.block, b.each);
      left = b.left;
      whole = f.whole ∙ ap (λ t. block_octets x.0 ++ t) b.whole
          ∙ sym (append_assoc (block_octets x.0) (flat_map block_octets (blocks_of x.1)) b.left)
          ∙ ap (λ bs. flat_map block_octets bs ++ b.left) (sym more);
    }

begins : (octets : List ℕ) → Begins octets
begins octets = begins_by (suc (length octets)) octets (first_block octets) refl (omega arith)

-- the octets are the blocks at their front
pub are_blocks : (octets : List ℕ) → IsTrue (is_bitmap octets) → AreBlocks octets (blocks_of octets)
unfolding is_bitmap
are_blocks octets h =
    let b = begins octets in
    let same : length (flat_map block_octets (blocks_of octets)) ≡ length octets = eqb-true _ _ h in
    let none : length b.left ≡ 0 = omega (
      arith,
      same,
      ap length b.whole,
      length-append
          (flat_map block_octets (blocks_of octets)) b.left,
    ) in
    record { each = All-from_recursion IsBlock (blocks_of octets) b.each; whole = b.whole ∙ nothing_left b.left none }
  where
    nothing_left : (left : List ℕ) → length left ≡ 0
        → flat_map block_octets (blocks_of octets) ++ left ≡ flat_map block_octets (blocks_of octets)
    nothing_left [] e = append-nil (flat_map block_octets (blocks_of octets))
    nothing_left (x ∷ left) e = absurd (omega arith)

-- and no others
pub only_blocks : (octets : List ℕ) (blocks : List Block) → AreBlocks octets blocks → blocks_of octets ≡ blocks
only_blocks octets blocks h = ap blocks_of h.whole ∙ blocks_back blocks (recursion_from_All IsBlock blocks h.each)

pub one_list : (octets : List ℕ) (a b : List Block) → AreBlocks octets a → AreBlocks octets b → a ≡ b
one_list octets a b h g = sym (only_blocks octets a h) ∙ only_blocks octets b g

is_bitmap_of : (octets : List ℕ) (blocks : List Block) → AreBlocks octets blocks → IsTrue (is_bitmap octets)
unfolding is_bitmap
is_bitmap_of octets blocks h = eq-eqb _ _
    (ap (λ bs. length (flat_map block_octets bs)) (only_blocks octets blocks h) ∙ ap length (sym h.whole))

pub bitmap_stands : (octets : List ℕ) → IsTrue (is_bitmap octets) ↔ IsBitmap octets
bitmap_stands octets = (λ h. (blocks_of octets, are_blocks octets h), λ b. is_bitmap_of octets b.0 b.1)

-- ---- types

pub type_stands : (octets : List ℕ) (t : ℕ) → IsTrue (is_bitmap octets) → IsTrue (has_type octets t) ↔ HasType octets t
unfolding has_type
type_stands octets t bitmap = (
  λ h. record { blocks = blocks_of octets; are_blocks = are_blocks octets bitmap; set = h },
  λ h. ap (list_any (block_has t)) (only_blocks octets h.blocks h.are_blocks) ∙ h.set,
)

range_rises : (a n : ℕ) → IsStrictlyIncreasing (range_with_len a n)
range_rises a n k h =
    let long : length (range_with_len a n) ≡ n = length-range_with_len a n in
    omega (
      arith,
      get_or-range_with_len a n k 0 (omega (arith, long)),
      get_or-range_with_len a n (k + 1) 0
          (omega (arith, long)),
    )

range_has : (n t : ℕ) → t < n → Contains (range_with_len 0 n) t
range_has n t h = (t, omega (arith, length-range_with_len 0 n), get_or-range_with_len 0 n t t h ∙ omega arith)

module _ (p : ℕ → Bool) (t : ℕ) (passes : p t ≡ true) where
  under : (b : Bool) (x : ℕ) (xs : List ℕ) → Contains xs t → Contains (cond b (x ∷ xs) xs) t
  under true x xs (k, below, found) = (suc k, omega arith, found)
  under false x xs h = h

  kept : (xs : List ℕ) (i : ℕ) → i < length xs → get_or xs i t ≡ t → Contains (filter p xs) t
  kept [] i h e = absurd (omega arith)
  kept (x ∷ xs) zero h e = let on : p x ≡ true = ap p e ∙ passes in rw on (0, omega arith, e)
  kept (x ∷ xs) (suc i) h e = under (p x) x (filter p xs) (kept xs i (omega arith) e)

module _ (p : ℕ → Bool) (limit : ℕ) where
  members_pass : (t : ℕ) → Contains (filter p (range_with_len 0 limit)) t → p t ≡ true
  members_pass t h = All-contains (λ x. p x ≡ true) (filter p (range_with_len 0 limit)) t
      (filter_passes p (range_with_len 0 limit)) h

  passing_are_members : (t : ℕ) → t < limit → p t ≡ true → Contains (filter p (range_with_len 0 limit)) t
  passing_are_members t h on = let r = range_has limit t h in kept p t on (range_with_len 0 limit) r.0 r.1 r.2

  members_rise : IsStrictlyIncreasing (filter p (range_with_len 0 limit))
  members_rise = IsStrictlyIncreasing-filter p (range_with_len 0 limit) (range_rises 0 limit)

pub types_rise : (octets : List ℕ) → IsStrictlyIncreasing (types octets)
unfolding types
types_rise octets = members_rise (has_type octets) (2 ^ 16)

pub types_are_had : (octets : List ℕ) (t : ℕ) → IsTrue (is_bitmap octets) → t < 2 ^ 16 → Contains (types octets) t
    ↔ HasType octets t
unfolding types
types_are_had octets t bitmap small = (
  λ h. (type_stands octets t bitmap).0 (members_pass (has_type octets) (2 ^ 16) t h),
  λ h. passing_are_members (has_type octets) (2 ^ 16) t small ((type_stands octets t bitmap).1 h),
)

-- the form of listed types has these and no others
pub listed_are_had : (listed : List ℕ) (t : ℕ) → t < 2 ^ 16 → HasType (form_of (is_one_of listed)) t ↔ Contains listed t
listed_are_had listed t small =
    let has = is_one_of listed in
    let stands = type_stands (form_of has) t (form_is_bitmap has) in
    let one = one_of_decides listed t in
    (λ h. one.0 (sym (form_has has t small) ∙ stands.1 h), λ h. stands.0 (form_has has t small ∙ one.1 h))

-- ---- what is written is read

module _ (front x back : List ℕ) where
  cut : slice_range (front ++ (x ++ back)) (length front) (length front + length x) ≡ x
  cut = ap (take (length front + length x - length front)) (drop_at front (x ++ back) (length front) refl)
      ∙ take_at x back (length front + length x - length front) (omega arith)

  pub set_back : IsTrue (is_bitmap x) → types_at (front ++ (x ++ back)) (length front) (length front + length x)
      ≡ Ok (x, length front + length x)
  set_back h = ap at cut ∙ ap (λ b. let o : Result (List ℕ × ℕ) DecodeError = cond b (Ok (x, length front + length x))
      (Err BitmapMalformed) in o) h
    where
      at : List ℕ → Result (List ℕ × ℕ) DecodeError
      at y = cond (is_bitmap y) (Ok (y, length front + length x)) (Err BitmapMalformed)

  pub data_back : IsTrue (is_bitmap x) → type_set_at (front ++ (x ++ back)) (length front) (length x)
      ≡ Ok (x, length front + length x)
  data_back h =
      let long : length front + length x ≤ length
      (front ++ (x ++ back)) = omega (arith, length-append front (x ++ back), length-append x back) in
      ap (λ b. let o : Result (List ℕ × ℕ) DecodeError = cond b (Err InsufficientBytes)
      (types_at (front ++ (x ++ back)) (length front) (length front + length x)) in o)
      (le-ltb (length (front ++ (x ++ back))) (length front + length x) long)
      ∙ set_back h
