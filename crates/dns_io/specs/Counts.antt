-- Counts of the outside. A count is a `u64`, and stands still at its last value.
use Rattle.std.specs.Prelude.{◌≡◌, ℕ, ◌+◌, ◌-◌, ◌^◌, ◌≤◌, min, max, Result, MatchResult}

-- n more, or the last value
abbrev pub raised : ℕ → ℕ → ℕ
raised before n = max before (min (before + n) (2 ^ 64 - 1))

-- the count has risen by n or more, or stands at the last value
abbrev pub RoseBy : ℕ → ℕ → ℕ → Type 0
RoseBy n before now = raised before n ≤ now

abbrev pub Rose : ℕ → ℕ → Type 0
Rose before now = RoseBy 1 before now

-- a failed call raises the count of faults by one, and no other call changes it
abbrev pub CountsFaults : {T E : Type 0} → ℕ → ℕ → Result T E → Type 0
CountsFaults before now result = MatchResult result (λ _. now ≡ before) (λ _. now ≡ raised before 1)

-- a read raises the count of octets taken by as many as it moved
abbrev pub CountsTaken : {E : Type 0} → ℕ → ℕ → Result ℕ E → Type 0
CountsTaken before now result = MatchResult result (λ n. now ≡ raised before n) (λ _. now ≡ before)
