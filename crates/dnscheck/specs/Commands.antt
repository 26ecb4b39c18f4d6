-- The commands of the program: what the words behind its name ask for.
use Rattle.std.specs.Prelude.{ℕ, nat_eq, if◌then◌else◌, List, [], ◌∷◌, codes, Option, Some, None, option_map}
use Rattle.std.specs.declared.alloc.Global.{Global}
use Rattle.std.specs.declared.string.String.{String}
use Rattle.std.specs.Option.{option_and_then}
use Rattle.std.specs.Str.{bytes_eq}
use Rattle.std.specs.String.{string_bytes}
use Rattle.dns_text.specs.Words.{number_below}
use Rattle.dnscheck.specs.declared.command.Command.{Command}
use Rattle.dnscheck.specs.declared.command.Command.TheVariants.{Check, Demo}

-- how many answers a demo has: a number from 1 to 1,000
abbrev pub demo_count : List ℕ → Option ℕ
demo_count word = option_and_then (λ n. if nat_eq n 0 then None else Some n) (number_below 1001 word)

-- `check` alone, or `demo` and such a number
unfoldable pub command_of : List (String Global) → Option Command
command_of (word ∷ []) = if bytes_eq (string_bytes word) (codes "check") then Some Check else None
command_of (word ∷ number ∷ []) =
    if bytes_eq (string_bytes word) (codes "demo") then option_map (λ count. Demo count) (demo_count (string_bytes number))
    else None
command_of _ = None

-- a fact under `check`
abbrev pub UnderCheck : Option Command → Type 0 → Type 0
UnderCheck (Some Check) fact = fact
UnderCheck (Some (Demo _)) fact = Unit {0}
UnderCheck None fact = Unit {0}

-- a fact under `demo`, of the number of answers
abbrev pub UnderDemo : Option Command → (ℕ → Type 0) → Type 0
UnderDemo (Some Check) fact = Unit {0}
UnderDemo (Some (Demo count)) fact = fact count
UnderDemo None fact = Unit {0}
