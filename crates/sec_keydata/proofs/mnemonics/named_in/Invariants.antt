use Rattle.std.proofs.Common.{◌≡◌, drop, map}
use Rattle.sec_keydata.specs.Tokens.{algorithm_beside}
use Rattle.sec_keydata.proofs.mnemonics.named_in.Given as goal

abbrev pub invariant-table : goal.invariant-table
invariant-table l = algorithm_beside (map (λ entry. (entry.0.now, entry.1)) l.table) l.word
    ≡ algorithm_beside (map (λ entry. (entry.0.now, entry.1)) (drop l.mnemonic-index l.table)) l.word
