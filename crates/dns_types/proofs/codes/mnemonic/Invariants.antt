use Rattle.std.proofs.Common.{◌≡◌, drop, map}
use Rattle.dns_wire.specs.Lookup.{lookup}
use Rattle.dns_types.proofs.codes.mnemonic.Given as goal

abbrev pub invariant-codes : goal.invariant-codes
invariant-codes l = lookup (map (λ entry. (entry.0, entry.1.now)) (drop l.code-index l.codes)) l.number
    ≡ lookup (map (λ entry. (entry.0, entry.1.now)) l.codes) l.number
