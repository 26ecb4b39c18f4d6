-- Where records stand, written to a room one behind the other.
use Rattle.std.proofs.Common.{◌≡◌, ℕ, zero, suc, ◌≤◌, ◌<◌, List, [], ◌∷◌, ◌++◌, length, map, take, drop, refl, ap, arith}
use Rattle.std.specs.Prelude.{slice_set}
use Rattle.message_walk.specs.declared.record_place.RecordPlace.{RecordPlace}
use Rattle.dns_c.specs.declared.records.PspRecord.{PspRecord}
use Rattle.dns_c.specs.MessageRecords.{record_for}

-- the first of the places in the room, which was this before
abbrev pub first_put : List PspRecord → List RecordPlace → ℕ → List PspRecord
first_put before all count = map record_for (take count all) ++ drop count before

pub one_more : (before : List PspRecord) (all : List RecordPlace) (count : ℕ) (place : RecordPlace)
    (left : List RecordPlace) → drop count all ≡ place ∷ left → length all ≤ length before
    → slice_set (first_put before all count) count (record_for place) ≡ first_put before all (suc count)
one_more before [] zero place left is room = absurd cc
one_more [] (x ∷ xs) zero place left is room = absurd (omega arith)
one_more (b ∷ bs) (x ∷ xs) zero place left is room =
    let same : place ≡ x = cc in
    ap (λ (y : RecordPlace). record_for y ∷ bs) same
one_more before [] (suc count) place left is room = absurd cc
one_more [] (x ∷ xs) (suc count) place left is room = absurd (omega arith)
one_more (b ∷ bs) (x ∷ xs) (suc count) place left is room =
    ap (λ (ys : List PspRecord). record_for x ∷ ys) (one_more bs xs count place left is (omega arith))

pub left_behind : (all : List RecordPlace) (count : ℕ) (place : RecordPlace) (left : List RecordPlace)
    → drop count all ≡ place ∷ left → (count < length all) × (left ≡ drop (suc count) all)
left_behind [] zero place left is = absurd cc
left_behind (x ∷ xs) zero place left is = (omega arith, cc)
left_behind [] (suc count) place left is = absurd cc
left_behind (x ∷ xs) (suc count) place left is =
    let later = left_behind xs count place left is in
    (omega (arith, later.0), later.1)

-- all of them
pub all_put : (before : List PspRecord) (all : List RecordPlace) (count : ℕ) → drop count all ≡ [] → count ≤ length all
    → length all ≤ length before → first_put before all count ≡ map record_for all ++ drop (length all) before
all_put before [] zero is at_most room = refl
all_put before (x ∷ xs) zero is at_most room = absurd cc
all_put before [] (suc count) is at_most room = absurd (omega arith)
all_put [] (x ∷ xs) (suc count) is at_most room = absurd (omega arith)
all_put (b ∷ bs) (x ∷ xs) (suc count) is at_most room =
    ap (λ (ys : List PspRecord). record_for x ∷ ys) (all_put bs xs count is (omega arith) (omega arith))
