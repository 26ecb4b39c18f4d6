use Rattle.std.proofs.Common.{◌≡◌, map}
use Rattle.std.specs.String.{string_bytes}
use Rattle.dns_types.specs.Codes.{type_text}
use Rattle.dnsshow.proofs.types.type_texts.Given as goal

abbrev pub invariant-types : goal.invariant-types
invariant-types l = map string_bytes l.texts.items ≡ map type_text l.yielded
