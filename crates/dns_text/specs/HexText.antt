-- Octets as hexadecimal (RFC 4648 8).
use Rattle.std.specs.Prelude.{ℕ, ◌/◌, ◌%◌, List, [], ◌∷◌, slice_index}
use Rattle.std.specs.List.{flat_map}
use Rattle.hex.specs.Hex.{lower_digits, upper_digits}
use Rattle.dns_text.specs.declared.hex_text.Letters.{Letters}
use Rattle.dns_text.specs.declared.hex_text.Letters.TheVariants.{Lower, Upper}

-- the sixteen digits
abbrev pub digits : Letters → List ℕ
digits Lower = lower_digits
digits Upper = upper_digits

-- two of these digits for each octet, the high four bits first
abbrev pub hex : List ℕ → List ℕ → List ℕ
hex sixteen = flat_map (λ octet. slice_index sixteen (octet / 16) ∷ slice_index sixteen (octet % 16) ∷ [])

-- in lower case
abbrev pub lower_hex : List ℕ → List ℕ
lower_hex = hex lower_digits

-- in upper case
abbrev pub upper_hex : List ℕ → List ℕ
upper_hex = hex upper_digits
