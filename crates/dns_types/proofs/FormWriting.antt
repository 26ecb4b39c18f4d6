-- How a form is written from bits.
use Rattle.std.proofs.Common.{◌≡◌, ◌≢◌, ℕ, zero, suc, ◌+◌, ◌-◌, ◌*◌, ◌^◌, ◌<◌, ◌≤◌, min, false, inl, inr, List, [], ◌∷◌}
use Rattle.std.proofs.Common.{◌++◌, length, drop, get_or, refl, sym, ap, ◌∙◌, arith, length-take}
use Rattle.std.specs.Prelude.{nat_eq, slice_range}
use Rattle.std.specs.List.{range_with_len, flat_map}
use Rattle.std.proofs.lemmas.Bool.{cases_lt}
use Rattle.std.proofs.lemmas.Bool.Decides.{nat_tests}
use Rattle.std.proofs.lemmas.List.{append-nil, nil_from_length, get_or_past, get_or-take, get_or-drop}
use Rattle.std.proofs.lemmas.List.Concat.{flat_map-append}
use Rattle.std.proofs.lemmas.List.FromFn.{get_or-map-range_with_len}
use Rattle.dns_types.specs.TypeSets.{has_type_bit, octet_of, window_bits, before_trimmed, trimmed, block_unless_empty}
use Rattle.dns_types.specs.TypeSets.{window_octets, form_of}
use Rattle.dns_types.proofs.TypeBits.{range_split, octet_of_bits}
use Rattle.dns_types.proofs.FormLaws.{form_is, length-window_bits}

-- ---- zero octets at the end

pub trimmed_zero : (octets : List ℕ) → trimmed (octets ++ 0 ∷ []) ≡ trimmed octets
trimmed_zero [] = refl
trimmed_zero (octet ∷ octets) = ap (before_trimmed octet) (trimmed_zero octets)

pub trimmed_other : (octets : List ℕ) (last : ℕ) → last ≢ 0 → trimmed (octets ++ last ∷ []) ≡ octets ++ last ∷ []
trimmed_other [] last some = let other : nat_eq last 0 ≡ false = grind (arith, nat_tests) in rw other refl
trimmed_other (octet ∷ octets) last some = ap (before_trimmed octet) (trimmed_other octets last some)
    ∙ kept octet octets last
  where
    kept : (octet : ℕ) (octets : List ℕ) (last : ℕ)
        → before_trimmed octet (octets ++ last ∷ []) ≡ octet ∷ (octets ++ last ∷ [])
    kept octet [] last = refl
    kept octet (next ∷ octets) last = refl

-- as a loop takes them away
pub trim_more : (octets left front : List ℕ) (last : ℕ) → trimmed left ≡ trimmed octets → left ≡ front ++ last ∷ []
    → last ≡ 0 → trimmed front ≡ trimmed octets
trim_more octets left front last same is zero_last = sym (trimmed_zero front)
    ∙ ap (λ k. trimmed (front ++ k ∷ [])) (sym zero_last) ∙ ap trimmed (sym is) ∙ same

pub trim_all : (octets left front : List ℕ) (last : ℕ) → trimmed left ≡ trimmed octets → left ≡ front ++ last ∷ []
    → last ≢ 0 → left ≡ trimmed octets
trim_all octets left front last same is some = is ∙ sym (trimmed_other front last some) ∙ ap trimmed (sym is) ∙ same

pub trim_none : (octets left : List ℕ) → trimmed left ≡ trimmed octets → length left ≡ 0 → left ≡ trimmed octets
trim_none octets left same none = let empty : left ≡ [] = nil_from_length left none in empty ∙ ap trimmed (sym empty)
    ∙ same

-- octets that differ in zero octets at the end alone
trimmed_same : (xs ys : List ℕ) → ((i : ℕ) → get_or xs i 0 ≡ get_or ys i 0) → trimmed xs ≡ trimmed ys
trimmed_same [] [] same = refl
trimmed_same [] (y ∷ ys) same = sym (ap (before_trimmed y) (sym (trimmed_same [] ys (λ i. same (suc i))))
    ∙ ap (λ k. before_trimmed k []) (sym (same 0)))
trimmed_same (x ∷ xs) [] same = ap (before_trimmed x) (trimmed_same xs [] (λ i. same (suc i)))
    ∙ ap (λ k. before_trimmed k []) (same 0)
trimmed_same (x ∷ xs) (y ∷ ys) same = λ i. before_trimmed (same 0 i) (trimmed_same xs ys (λ j. same (suc j)) i)

-- ---- windows

module _ (bits : List ℕ) (small : (k : ℕ) → get_or bits k 0 < 2 ^ 8) where
  octets_at : (w i : ℕ) → i < 32 → get_or (window_bits (has_type_bit bits) w) i 0 ≡ get_or bits (32 * w + i) 0
  unfolding window_bits
  octets_at w i below =
      let place : 256 * w + 8 * i ≡ 8 * (32 * w + i) = omega arith in
      get_or-map-range_with_len (λ j. octet_of (has_type_bit bits) (256 * w + 8 * j)) 0 32 i i 0 below (omega arith)
      ∙ ap (octet_of (has_type_bit bits)) place ∙ octet_of_bits bits (32 * w + i) (small (32 * w + i))

  same_octets : (w e i : ℕ) → e ≡ min (length bits) (32 * w + 32)
      → get_or (window_bits (has_type_bit bits) w) i 0 ≡ get_or (slice_range bits (32 * w) e) i 0
  same_octets w e i end =
      elim (cases_lt i 32) [
        | inl below ↦ (elim (cases_lt i (e - 32 * w)) [
          | inl within ↦ octets_at w i below ∙ sym (get_or-take (e - 32 * w) (drop (32 * w) bits) i 0 within
              ∙ get_or-drop (32 * w) bits i 0)
          | inr past ↦ (let behind : length bits ≤ 32 * w + i = omega (arith, end) in
              octets_at w i below ∙ get_or_past bits (32 * w + i) 0 behind
              ∙ sym (get_or_past (slice_range bits (32 * w) e) i 0
              (omega (arith, length-take (e - 32 * w) (drop (32 * w) bits)))))
        ])
        | inr past ↦ (let few : length (slice_range bits (32 * w) e) ≤ i = omega (
          arith,
          length-take (e - 32 * w)
              (drop (32 * w) bits),
          end,
        ) in
            get_or_past (window_bits (has_type_bit bits) w) i 0
            (omega (arith, length-window_bits (has_type_bit bits) w))
            ∙ sym (get_or_past (slice_range bits (32 * w) e) i 0 few))
      ]

  -- a window is written from its octets
  window_written : (w e : ℕ) → e ≡ min (length bits) (32 * w + 32)
      → window_octets (has_type_bit bits) w ≡ block_unless_empty w (trimmed (slice_range bits (32 * w) e))
  unfolding window_octets
  window_written w e end = ap (block_unless_empty w)
      (trimmed_same (window_bits (has_type_bit bits) w) (slice_range bits (32 * w) e) (λ i. same_octets w e i end))

  -- nothing is written of windows behind the octets
  window_behind : (w : ℕ) → length bits ≤ 32 * w → window_octets (has_type_bit bits) w ≡ []
  unfolding window_octets
  window_behind w behind = ap (block_unless_empty w) (trimmed_same (window_bits (has_type_bit bits) w) [] none)
    where
      none : (i : ℕ) → get_or (window_bits (has_type_bit bits) w) i 0 ≡ 0
      none i =
          elim (cases_lt i 32) [
            | inl below ↦ octets_at w i below ∙ get_or_past bits (32 * w + i) 0 (omega arith)
            | inr past ↦ get_or_past (window_bits (has_type_bit bits) w) i 0
                (omega (arith, length-window_bits (has_type_bit bits) w))
          ]

  none_behind : (a n : ℕ) → length bits ≤ 32 * a
      → flat_map (window_octets (has_type_bit bits)) (range_with_len a n) ≡ []
  none_behind a zero behind = refl
  none_behind a (suc n) behind = (λ i. window_behind a behind i
      ++ flat_map (window_octets (has_type_bit bits)) (range_with_len (a + 1) n)) ∙ none_behind (a + 1) n (omega arith)

  written_by : (n windows : ℕ) → n ≡ 256 → windows ≤ 256 → length bits ≤ 32 * windows
      → flat_map (window_octets (has_type_bit bits)) (range_with_len 0 windows) ≡ form_of (has_type_bit bits)
  written_by n windows e few all =
      let parts : n ≡ windows + (n - windows) = omega arith in
      sym (form_is (has_type_bit bits) n e
      ∙ ap (λ k. flat_map (window_octets (has_type_bit bits)) (range_with_len 0 k)) parts
      ∙ ap (flat_map (window_octets (has_type_bit bits))) (range_split 0 windows (n - windows))
      ∙ flat_map-append (window_octets (has_type_bit bits)) (range_with_len 0 windows)
      (range_with_len (0 + windows) (n - windows))
      ∙ ap (λ x. flat_map (window_octets (has_type_bit bits)) (range_with_len 0 windows) ++ x)
      (none_behind (0 + windows) (n - windows) (omega arith))
      ∙ append-nil (flat_map (window_octets (has_type_bit bits)) (range_with_len 0 windows)))

  -- all windows are written
  pub written_all : (windows : ℕ) → windows ≤ 256 → length bits ≤ 32 * windows
      → flat_map (window_octets (has_type_bit bits)) (range_with_len 0 windows) ≡ form_of (has_type_bit bits)
  written_all windows = written_by 256 windows refl

  -- one window more
  pub written_more : (form : List ℕ) (w e : ℕ) → e ≡ min (length bits) (32 * w + 32)
      → form ≡ flat_map (window_octets (has_type_bit bits)) (range_with_len 0 w)
      → form ++ block_unless_empty w (trimmed (slice_range bits (32 * w) e))
      ≡ flat_map (window_octets (has_type_bit bits)) (range_with_len 0 (w + 1))
  written_more form w e end so_far =
      let zero_more : 0 + w ≡ w = omega arith in
      let f : ℕ → List ℕ = window_octets (has_type_bit bits) in
      (λ i. so_far i ++ sym (window_written w e end) i)
      ∙ ap (λ x. flat_map f (range_with_len 0 w) ++ x) (sym (append-nil (f w)))
      ∙ ap (λ k. flat_map f (range_with_len 0 w) ++ flat_map f (range_with_len k 1)) (sym zero_more)
      ∙ sym (flat_map-append f (range_with_len 0 w) (range_with_len (0 + w) 1))
      ∙ ap (flat_map f) (sym (range_split 0 w 1))

-- the steps of the loop that trims
pub ruleset trim_steps = (trim_none, trim_more, trim_all)
