-- Laws of the one form of a set of types.
use Rattle.std.proofs.Common.{◌≡◌, ℕ, zero, suc, ◌+◌, ◌-◌, ◌*◌, ◌/◌, ◌%◌, ◌^◌, ◌<◌, ◌≤◌, Bool, true, false, ◌&&◌}
use Rattle.std.proofs.Common.{IsTrue, inl, inr, List, [], ◌∷◌, ◌++◌, length, get_or, Some, refl, sym, ap, ◌∙◌, arith}
use Rattle.std.proofs.Common.{length-append}
use Rattle.std.specs.Prelude.{◌==◌, nat_eq, nat_le, filter}
use Rattle.std.specs.Int.{bit_at}
use Rattle.std.specs.List.{AllByRecursion, range_with_len, flat_map, list_any}
use Rattle.std.proofs.Math.Bool.{or-false}
use Rattle.std.proofs.lemmas.Bool.{cases_eq}
use Rattle.std.proofs.lemmas.Bool.Decides.{nat_tests, Decides-eqb}
use Rattle.std.proofs.lemmas.List.{append-nil, take_at, drop_at}
use Rattle.std.proofs.lemmas.List.Concat.{flat_map-append}
use Rattle.std.proofs.lemmas.List.Folds.{list_any-append}
use Rattle.std.proofs.lemmas.List.FromFn.{get_or-map-range_with_len, length-map-range_with_len}
use Rattle.dns_types.specs.TypeSets.{Block, IsBlock, block_octets, has_type_bit, block_has, is_block, first_block}
use Rattle.dns_types.specs.TypeSets.{before_blocks, blocks_up_to, blocks_of, is_bitmap, has_type, types, ascend_from}
use Rattle.dns_types.specs.TypeSets.{is_ascending, octet_of, window_bits, before_trimmed, trimmed, block_unless_empty}
use Rattle.dns_types.specs.TypeSets.{window_octets, form_of}
use Rattle.dns_types.proofs.TypeBits.{has_bit_at, octet_bit, filter_agree_within}

-- ---- blocks that are written are read

is_block_here : (bits rest : List ℕ) → 0 < length bits → length bits ≤ 32 → is_block (length bits) (bits ++ rest) ≡ true
is_block_here bits rest some few = let within : length bits ≤ length
    (bits ++ rest) = omega (arith, length-append bits rest) in grind (arith, nat_tests)

first_block_here : (block : Block) (rest : List ℕ) → IsBlock block
    → first_block (block_octets block ++ rest) ≡ Some (block, rest)
first_block_here block rest h =
    rw (
      is_block_here block.bits rest h.nonempty h.at_most_32,
      take_at block.bits rest (length block.bits) refl,
      drop_at block.bits rest (length block.bits) refl,
    ) refl

blocks_up_to_back : (most : ℕ) (blocks : List Block) → AllByRecursion IsBlock blocks
    → length (flat_map block_octets blocks) ≤ most → blocks_up_to most (flat_map block_octets blocks) ≡ blocks
blocks_up_to_back zero [] each enough = refl
blocks_up_to_back (suc most) [] each enough = refl
blocks_up_to_back zero (block ∷ blocks) each enough = absurd (omega arith)
blocks_up_to_back (suc most) (block ∷ blocks) each enough =
    let behind : length (flat_map block_octets blocks) ≤ most = omega (
      arith,
      length-append block.bits
          (flat_map block_octets blocks),
    ) in
    ap (λ o. before_blocks o (λ rest. blocks_up_to most rest))
    (first_block_here block (flat_map block_octets blocks) each.0)
    ∙ ap (λ bs. block ∷ bs) (blocks_up_to_back most blocks each.1 behind)

pub blocks_back : (blocks : List Block) → AllByRecursion IsBlock blocks
    → blocks_of (flat_map block_octets blocks) ≡ blocks
unfolding blocks_of
blocks_back blocks each = blocks_up_to_back (length (flat_map block_octets blocks)) blocks each (omega arith)

-- the number of types is kept a variable, so that no list of 65,536 computes
types_are : (octets : List ℕ) (n : ℕ) → n ≡ 2 ^ 16 → types octets ≡ filter (has_type octets) (range_with_len 0 n)
unfolding types
types_are octets n e = ap (λ k. filter (has_type octets) (range_with_len 0 k)) (sym e)

-- ---- octets without zero octets at their end

before_trimmed_at : (octet : ℕ) (octets : List ℕ) (i : ℕ)
    → get_or (before_trimmed octet octets) i 0 ≡ get_or (octet ∷ octets) i 0
before_trimmed_at octet (next ∷ octets) i = refl
before_trimmed_at zero [] zero = refl
before_trimmed_at zero [] (suc i) = refl
before_trimmed_at (suc octet) [] i = let some : nat_eq (suc octet) 0 ≡ false = grind (arith, nat_tests) in rw some refl

pub trimmed_at : (octets : List ℕ) (i : ℕ) → get_or (trimmed octets) i 0 ≡ get_or octets i 0
trimmed_at [] i = refl
trimmed_at (octet ∷ octets) zero = before_trimmed_at octet (trimmed octets) zero
trimmed_at (octet ∷ octets) (suc i) = before_trimmed_at octet (trimmed octets) (suc i) ∙ trimmed_at octets i

length-before_trimmed : (octet : ℕ) (octets : List ℕ) → length (before_trimmed octet octets) ≤ suc (length octets)
length-before_trimmed octet (next ∷ octets) = omega arith
length-before_trimmed zero [] = omega arith
length-before_trimmed (suc octet) [] = let some : nat_eq (suc octet) 0 ≡ false = grind (arith, nat_tests) in
    rw some (omega arith)

pub length-trimmed : (octets : List ℕ) → length (trimmed octets) ≤ length octets
length-trimmed [] = omega arith
length-trimmed (octet ∷ octets) = omega (arith, length-before_trimmed octet (trimmed octets), length-trimmed octets)

trimmed_has_bit : (octets : List ℕ) (n : ℕ) → has_type_bit (trimmed octets) n ≡ has_type_bit octets n
trimmed_has_bit octets n = has_bit_at (trimmed octets) n
    ∙ ap (λ k. bit_at k (7 - n % 8) == 1) (trimmed_at octets (n / 8)) ∙ sym (has_bit_at octets n)

-- ---- the blocks of a form

-- a block, and none where it has no bits
blocks_unless_empty : ℕ → List ℕ → List Block
blocks_unless_empty w [] = []
blocks_unless_empty w (octet ∷ octets) = record { window = w; bits = octet ∷ octets } ∷ []

written_block : (w : ℕ) (bits : List ℕ) → block_unless_empty w bits ≡ flat_map block_octets (blocks_unless_empty w bits)
unfolding blocks_unless_empty
written_block w [] = refl
written_block w (octet ∷ octets) = sym (append-nil (block_unless_empty w (octet ∷ octets)))

module _ (has : ℕ → Bool) where
  window_blocks : ℕ → List Block
  window_blocks w = blocks_unless_empty w (trimmed (window_bits has w))

  pub length-window_bits : (w : ℕ) → length (window_bits has w) ≡ 32
  unfolding window_bits
  length-window_bits w = length-map-range_with_len (λ i. octet_of has (256 * w + 8 * i)) 0 32

  -- a form is its blocks, one behind the other
  written_blocks : (ws : List ℕ) → flat_map (window_octets has) ws ≡ flat_map block_octets (flat_map window_blocks ws)
  unfolding window_octets window_blocks
  written_blocks [] = refl
  written_blocks (w ∷ ws) =
      (λ i. written_block w (trimmed (window_bits has w)) i ++ written_blocks ws i)
      ∙ sym (flat_map-append block_octets (window_blocks w) (flat_map window_blocks ws))

  block_is : (w : ℕ) (bits : List ℕ) (rest : List Block) → length bits ≤ 32 → AllByRecursion IsBlock rest
      → AllByRecursion IsBlock (blocks_unless_empty w bits ++ rest)
  unfolding blocks_unless_empty
  block_is w [] rest few all = all
  block_is w (octet ∷ octets) rest few all = (record { nonempty = omega arith; at_most_32 = few }, all)

  blocks_are : (ws : List ℕ) → AllByRecursion IsBlock (flat_map window_blocks ws)
  unfolding window_blocks
  blocks_are [] = tt
  blocks_are (w ∷ ws) = block_is w (trimmed (window_bits has w)) (flat_map window_blocks ws)
      (omega (arith, length-trimmed (window_bits has w), length-window_bits w)) (blocks_are ws)

  -- ---- their types

  window_has : (w n : ℕ) → n < 256 → has_type_bit (window_bits has w) n ≡ has (256 * w + n)
  unfolding window_bits
  window_has w n below =
      let within : n / 8 < 32 = omega arith in
      let octet : get_or (window_bits has w) (n / 8) 0
      ≡ octet_of has (256 * w + 8 * (n / 8)) = get_or-map-range_with_len (λ i. octet_of has (256 * w + 8 * i)) 0 32
      (n / 8) (n / 8) 0 within (omega arith) in
      let low : n % 8 < 8 = omega arith in
      let same : 256 * w + 8 * (n / 8) + n % 8 ≡ 256 * w + n = omega arith in
      has_bit_at (window_bits has w) n ∙ ap (λ k. bit_at k (7 - n % 8) == 1) octet
      ∙ octet_bit has (256 * w + 8 * (n / 8)) (n % 8) low ∙ ap has same

  block_bits : (w t : ℕ) (bits : List ℕ) → list_any (block_has t) (blocks_unless_empty w bits)
      ≡ (nat_eq w (t / 256) && has_type_bit bits (t % 256))
  unfolding blocks_unless_empty
  block_bits w t [] = let none : has_type_bit [] (t % 256) ≡ false = grind (arith, nat_tests) in
      grind (arith, nat_tests)
  block_bits w t (octet ∷ octets) = grind (arith, nat_tests)

  window_blocks_have : (w t : ℕ) → list_any (block_has t) (window_blocks w) ≡ (nat_eq w (t / 256) && has t)
  unfolding window_blocks
  window_blocks_have w t =
      elim (cases_eq w (t / 256)) [
        | inl same ↦ (let type : 256 * w + t % 256 ≡ t = omega arith in
            let here : nat_eq w (t / 256) ≡ true = grind (arith, nat_tests) in
            block_bits w t (trimmed (window_bits has w))
            ∙ ap (λ b. nat_eq w (t / 256) && b) (trimmed_has_bit (window_bits has w) (t % 256)
            ∙ window_has w (t % 256) (omega arith) ∙ ap has type))
        | inr other ↦ (let away : nat_eq w (t / 256) ≡ false = grind (arith, nat_tests) in
            block_bits w t (trimmed (window_bits has w)) ∙ rw away refl)
      ]

  blocks_have_no : (t a n : ℕ) → t / 256 < a
      → list_any (block_has t) (flat_map window_blocks (range_with_len a n)) ≡ false
  blocks_have_no t a zero below = refl
  blocks_have_no t a (suc n) below =
      let away : nat_eq a (t / 256) ≡ false = grind (arith, nat_tests) in
      list_any-append (block_has t) (window_blocks a) (flat_map window_blocks (range_with_len (a + 1) n))
      ∙ rw (window_blocks_have a t, away, blocks_have_no t (a + 1) n (omega arith)) refl

  blocks_have : (t a n : ℕ) → a ≤ t / 256 → t / 256 < a + n
      → list_any (block_has t) (flat_map window_blocks (range_with_len a n)) ≡ has t
  blocks_have t a zero from below = absurd (omega arith)
  blocks_have t a (suc n) from below =
      list_any-append (block_has t) (window_blocks a) (flat_map window_blocks (range_with_len (a + 1) n))
      ∙ elim (cases_eq a (t / 256)) [
        | inl same ↦ (let here : nat_eq a (t / 256) ≡ true = grind (arith, nat_tests) in
            rw (window_blocks_have a t, here, blocks_have_no t (a + 1) n (omega arith)) (or-false (has t)))
        | inr other ↦ (let away : nat_eq a (t / 256) ≡ false = grind (arith, nat_tests) in
            rw (window_blocks_have a t, away) (blocks_have t (a + 1) n (omega arith) (omega arith)))
      ]

  -- ---- their windows

  ascends_on : (lowest a : ℕ) (bits : List ℕ) (rest : List Block) → lowest ≤ a
      → ((low : ℕ) → low ≤ a + 1 → ascend_from low rest ≡ true)
      → ascend_from lowest (blocks_unless_empty a bits ++ rest) ≡ true
  unfolding blocks_unless_empty
  ascends_on lowest a [] rest from behind = behind lowest (omega arith)
  ascends_on lowest a (octet ∷ octets) rest from behind = let here : nat_le lowest a
      ≡ true = grind (arith, nat_tests) in rw here (behind (a + 1) (omega arith))

  ascends : (lowest a n : ℕ) → lowest ≤ a → ascend_from lowest (flat_map window_blocks (range_with_len a n)) ≡ true
  unfolding window_blocks
  ascends lowest a zero from = refl
  ascends lowest a (suc n) from = ascends_on lowest a (trimmed (window_bits has a))
      (flat_map window_blocks (range_with_len (a + 1) n)) from (λ low h. ascends low (a + 1) n h)

  -- ---- the form

  -- the number of windows is kept a variable, so that no list of 256 computes
  pub form_is : (n : ℕ) → n ≡ 256 → form_of has ≡ flat_map (window_octets has) (range_with_len 0 n)
  unfolding form_of
  form_is n e = ap (λ k. flat_map (window_octets has) (range_with_len 0 k)) (sym e)

  form_blocks : (n : ℕ) → n ≡ 256 → blocks_of (form_of has) ≡ flat_map window_blocks (range_with_len 0 n)
  form_blocks n e = ap blocks_of (form_is n e ∙ written_blocks (range_with_len 0 n))
      ∙ blocks_back (flat_map window_blocks (range_with_len 0 n)) (blocks_are (range_with_len 0 n))

  form_is_bitmap_by : (n : ℕ) → n ≡ 256 → IsTrue (is_bitmap (form_of has))
  unfolding is_bitmap
  form_is_bitmap_by n e =
      let same : flat_map block_octets (blocks_of (form_of has))
      ≡ form_of has = ap (flat_map block_octets) (form_blocks n e)
      ∙ sym (form_is n e ∙ written_blocks (range_with_len 0 n)) in
      (Decides-eqb (length (flat_map block_octets (blocks_of (form_of has)))) (length (form_of has))).1 (ap length same)

  pub form_is_bitmap : IsTrue (is_bitmap (form_of has))
  form_is_bitmap = form_is_bitmap_by 256 refl

  form_ascends_by : (n : ℕ) → n ≡ 256 → IsTrue (is_ascending (form_of has))
  unfolding is_ascending
  form_ascends_by n e = ap (ascend_from 0) (form_blocks n e) ∙ ascends 0 0 n (omega arith)

  pub form_ascends : IsTrue (is_ascending (form_of has))
  form_ascends = form_ascends_by 256 refl

  form_has_by : (n t : ℕ) → n ≡ 256 → t < 2 ^ 16 → has_type (form_of has) t ≡ has t
  unfolding has_type
  form_has_by n t e below = ap (list_any (block_has t)) (form_blocks n e)
      ∙ blocks_have t 0 n (omega arith) (omega arith)

  pub form_has : (t : ℕ) → t < 2 ^ 16 → has_type (form_of has) t ≡ has t
  form_has t below = form_has_by 256 t refl below

  form_types_by : (n : ℕ) → n ≡ 2 ^ 16 → types (form_of has) ≡ filter has (range_with_len 0 n)
  form_types_by n e = types_are (form_of has) n e
      ∙ filter_agree_within (has_type (form_of has)) has 0 n (λ t from below. form_has t (omega arith))

  pub form_types : types (form_of has) ≡ filter has (range_with_len 0 (2 ^ 16))
  form_types = form_types_by (2 ^ 16) refl
