-- Base32 with the extended hex alphabet, without padding and in lower case, as DNSSEC writes hashed
-- names (RFC 4648, sections 6 and 7; RFC 5155, section 3.3).
use Rattle.std.specs.Prelude.{ℕ, ◌+◌, ◌-◌, ◌*◌, ◌/◌, ◌%◌, ◌&&◌, List, length, map, slice_index, codes, Option, Some}
use Rattle.std.specs.Prelude.{None, nat_lt, nat_le, if◌then◌else◌}
use Rattle.std.specs.Int.{bit_at}
use Rattle.std.specs.List.{range_with_len}

-- bit k of an octet string: each octet has eight, the highest first. Behind the last octet each bit is 0.
abbrev pub bit_of : List ℕ → ℕ → ℕ
bit_of octets k = bit_at (slice_index octets (k / 8)) (7 - k % 8)

-- the number in the five bits from bit k on, the highest first
abbrev pub five_bits : List ℕ → ℕ → ℕ
five_bits octets k =
    16 * bit_of octets k + 8 * bit_of octets (k + 1) + 4 * bit_of octets (k + 2)
    + 2 * bit_of octets (k + 3) + bit_of octets (k + 4)

-- the digit of a number below 32 (RFC 4648, table 4, in lower case)
unfoldable pub digit_of : ℕ → ℕ
digit_of value = slice_index (codes "0123456789abcdefghijklmnopqrstuv") value

-- the number of digits: one for each five bits, and one for what is left
abbrev pub digit_count : ℕ → ℕ
digit_count octet_count = (8 * octet_count + 4) / 5

-- the digit of the five bits from bit 5 i on
unfoldable pub digit_at : List ℕ → ℕ → ℕ
digit_at octets i = digit_of (five_bits octets (5 * i))

-- the octets as digits of five bits each, from the left
unfoldable pub base32 : List ℕ → List ℕ
base32 octets = map (digit_at octets) (range_with_len 0 (digit_count (length octets)))

-- the label of a hashed name, where its hash has 1 to 39 octets: base32 of 40 has 64 digits (RFC 5155, section 3)
abbrev pub hash_label : List ℕ → Option (List ℕ)
hash_label hash = if nat_lt 0 (length hash) && nat_le (length hash) 39 then Some (base32 hash) else None
