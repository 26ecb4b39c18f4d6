-- How a name is written.
use Rattle.std.specs.Prelude.{ℕ, List}
use Rattle.dns_wire.specs.declared.encoder.NameEncoding.{NameEncoding}
use Rattle.dns_wire.specs.declared.encoder.NameEncoding.TheVariants.{Uncompressed, UncompressedLowercase}
use Rattle.dns_names.specs.Names.{wire, low}

-- a name as the encoder writes it
abbrev pub name_octets : NameEncoding → List (List ℕ) → List ℕ
name_octets Uncompressed n = wire n
name_octets UncompressedLowercase n = wire (low n)
