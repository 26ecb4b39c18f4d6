use Rattle.std.proofs.Common.{◌≡◌, drop, map}
use Rattle.dns_types.specs.Codes.{number_named}
use Rattle.dns_types.proofs.code_text.number_named.Given as goal

abbrev pub invariant-codes : goal.invariant-codes
invariant-codes l = number_named (map (λ entry. (entry.0, entry.1.now)) l.codes) l.text
    ≡ number_named (map (λ entry. (entry.0, entry.1.now)) (drop l.number-index l.codes)) l.text
