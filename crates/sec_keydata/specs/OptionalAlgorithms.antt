-- Algorithms of CDNSKEY and CDS records, of which there may be none (RFC 8078 4).
use Rattle.std.specs.Prelude.{ℕ, nat_eq, if◌then◌else◌, Option, Some, None}
use Rattle.sec_codes.specs.declared.algorithm.Algorithm.{Algorithm}
use Rattle.sec_codes.specs.Algorithms.{number, algorithm_numbered}

-- the number of an algorithm, and 0 for none
abbrev pub optional_algorithm_number : Option Algorithm → ℕ
optional_algorithm_number None = 0
optional_algorithm_number (Some a) = number a

-- the algorithm of a number, and none for 0
abbrev pub optional_algorithm : ℕ → Option Algorithm
optional_algorithm n = if nat_eq n 0 then None else Some (algorithm_numbered n)
