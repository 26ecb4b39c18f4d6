-- What is written of a digest, or of a key of other uses, is read back.
use Rattle.std.proofs.Common.{◌≡◌, ℕ, ◌^◌, ◌<◌, List, None, refl, arith}
use Rattle.dns_grammar.specs.Fields.{Num}
use Rattle.sec_keydata.specs.KeyRows.{ds_row, key_row, key_flags_fault}
use Rattle.dns_grammar.specs.Laws.{AreReadBack}
use Rattle.dns_grammar.proofs.ReadAgain.{written_row}
use Rattle.sec_keydata.specs.DsData.{digest_values}
use Rattle.sec_keydata.specs.KeyData.{key_row_values}

pub digests_back : (tag algorithm kind : ℕ) (digest : List ℕ) → tag < 2 ^ 16 → algorithm < 2 ^ 8 → kind < 2 ^ 8
    → AreReadBack ds_row (digest_values tag algorithm kind digest)
digests_back tag algorithm kind digest small few fewer = (
  _,
  refl,
  λ front back. written_row ds_row refl (digest_values tag algorithm kind digest) _ front back
      ((small, refl, (few, refl, (fewer, refl, (tt, refl, tt))))) (omega arith) refl,
)

pub other_keys_back : (flags protocol algorithm : ℕ) (octets : List ℕ) → flags < 2 ^ 16
    → key_flags_fault (Num flags) ≡ None → protocol < 2 ^ 8 → algorithm < 2 ^ 8
    → AreReadBack key_row (key_row_values flags protocol algorithm octets)
other_keys_back flags protocol algorithm octets small none few fewer = (
  _,
  refl,
  λ front back. written_row key_row refl (key_row_values flags protocol algorithm octets) _ front back
      ((small, none, (few, refl, (fewer, refl, (tt, refl, tt))))) (omega arith) refl,
)
