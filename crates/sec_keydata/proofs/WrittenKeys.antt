-- What is written of a key is read back.
use Rattle.std.proofs.Common.{◌^◌, ◌<◌, refl, arith}
use Rattle.sec_keydata.specs.KeyRows.{dnskey_row}
use Rattle.dns_grammar.specs.Laws.{AreReadBack}
use Rattle.dns_grammar.proofs.ReadAgain.{written_row}
use Rattle.sec_keydata.specs.PublicKeyFields.{PublicKeyFields, public_key_values}

pub read_back : (key : PublicKeyFields) → key.flags < 2 ^ 16 → key.algorithm < 2 ^ 8
    → AreReadBack dnskey_row (public_key_values key)
read_back key small few = (
  _,
  refl,
  λ front back. written_row dnskey_row refl (public_key_values key) _ front back
      ((small, refl, (omega arith, refl, (few, refl, (tt, refl, tt))))) (omega arith) refl,
)
