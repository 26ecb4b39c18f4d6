-- Octet strings, the case of ASCII letters, and numbers as octets.
use Rattle.std.specs.Prelude.{ℕ, ◌/◌, ◌%◌, ◌^◌, ◌<◌, List, ◌++◌}
use Rattle.std.specs.List.{AllByRecursion}
use Rattle.std.specs.Char.{to_ascii_lowercase}
use Rattle.std.specs.Str.{str_to_ascii_lowercase}
use Rattle.std.specs.Int.{to_be_bytes, w16, w32}

-- each number is an octet
abbrev pub AreOctets : List ℕ → Type 0
AreOctets = AllByRecursion (λ octet. octet < 256)

-- 65 to 90, the letters A to Z, with 32 added, and every other octet as it is
abbrev pub lower : ℕ → ℕ
lower = to_ascii_lowercase

-- each octet lowered
abbrev pub lowered : List ℕ → List ℕ
lowered = str_to_ascii_lowercase

-- a number in two octets, the highest first
abbrev pub two_octets : ℕ → List ℕ
two_octets = to_be_bytes w16

-- a number in four octets, the highest first
abbrev pub four_octets : ℕ → List ℕ
four_octets = to_be_bytes w32

-- a number in six octets, the highest first
abbrev pub six_octets : ℕ → List ℕ
six_octets n = two_octets (n / 2 ^ 32) ++ four_octets (n % 2 ^ 32)
