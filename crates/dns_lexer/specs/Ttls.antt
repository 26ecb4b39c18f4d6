-- Times to live as text: groups of decimal digits and a unit.
use Rattle.std.specs.Prelude.{ℕ, zero, suc, ◌+◌, ◌*◌, ◌^◌, List, [], ◌∷◌, take, drop, not, nat_eq, nat_lt}
use Rattle.std.specs.Prelude.{if◌then◌else◌, Option, Some, None}
use Rattle.std.specs.Char.{is_ascii_digit, to_ascii_lowercase}
use Rattle.std.specs.List.{position_or_len}
use Rattle.std.specs.Option.{option_and_then, option_map}
use Rattle.dns_text.specs.Words.{number_of}

-- the seconds of a unit, by its letter in either case
abbrev pub unit_seconds : ℕ → Option ℕ
unit_seconds c =
    if nat_eq (to_ascii_lowercase c) 115 then Some 1
    else if nat_eq (to_ascii_lowercase c) 109 then Some 60
    else if nat_eq (to_ascii_lowercase c) 104 then Some 3600
    else if nat_eq (to_ascii_lowercase c) 100 then Some 86400
    else if nat_eq (to_ascii_lowercase c) 119 then Some 604800
    else None

-- the seconds of the unit behind a group's digits; a last unit may be missing
abbrev pub first_unit : List ℕ → Option ℕ
first_unit [] = Some 1
first_unit (c ∷ rest) = unit_seconds c

-- how many digits a text begins with
abbrev pub digit_count : List ℕ → ℕ
digit_count text = position_or_len (λ c. not (is_ascii_digit c)) text

-- the seconds of the group that a text begins with
abbrev pub first_group : List ℕ → Option ℕ
first_group text =
    option_and_then (λ number. option_map (λ unit. number * unit) (first_unit (drop (digit_count text) text)))
    (number_of (take (digit_count text) text))

-- The sum of the groups of a text. So many octets are skipped, which belong to the group before.
unfoldable pub group_sum : (skipped : ℕ) → List ℕ → Option ℕ
group_sum skipped [] = Some 0
group_sum (suc skipped) (c ∷ rest) = group_sum skipped rest
group_sum zero (c ∷ rest) =
    option_and_then (λ seconds. option_map (λ others. seconds + others) (group_sum (digit_count (c ∷ rest)) rest))
    (first_group (c ∷ rest))

-- a number that fits a time to live
abbrev pub small : Option ℕ → Option ℕ
small = option_and_then (λ n. if nat_lt n (2 ^ 32) then Some n else None)

-- the seconds that a text of at least one group says, where they are below 2^32
abbrev pub ttl_of : List ℕ → Option ℕ
ttl_of [] = None
ttl_of text = small (group_sum 0 text)
