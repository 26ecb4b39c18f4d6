use Rattle.std.proofs.Common.{◌≡◌, ◌++◌, ◌+◌, ℕ, List, length, take, refl, ap, sym, ◌∙◌, append_assoc, arith}
use Rattle.std.proofs.Common.{length-append}
use Rattle.std.proofs.lemmas.List.{take_at}
use Rattle.dns_names.specs.Names.{wire, low}
use Rattle.sec_keydata.specs.PublicKeyFields.{lent_fields}
use Rattle.sec_keydata.specs.KeyTags.{key_octets}
use Rattle.sec_keydata.proofs.dnskey_fields.DnskeyFields.before_key.Goals as goal

-- what stands in front after the two copies
two_copies : (name head first second rest more : List ℕ) → first ≡ name → second ≡ head → length head ≡ 4
    → take (length name + 4) (take (length name) (first ++ rest) ++ (second ++ more)) ≡ name ++ head
two_copies name head first second rest more is also four =
    let copied : take (length name) (first ++ rest) ≡ name = ap (λ t. take (length name) (t ++ rest)) is
    ∙ take_at name rest (length name) refl in
    let whole : take (length name) (first ++ rest) ++ (second ++ more)
    ≡ (name ++ head) ++ more = ap (λ t. t ++ (second ++ more)) copied
    ∙ (ap (λ t. name ++ (t ++ more)) also ∙ sym (append_assoc name head more)) in
    ap (take (length name + 4)) whole ∙ take_at (name ++ head) more (length name + 4) (length-append name head
    ∙ ap (λ n. length name + n) four)

pub returns-clause-octets : goal.returns-clause-octets
returns-clause-octets c =
    let name = c.as_wire-name.result.now in
    let key = c.args.self.now.public_key.now in
    let owner : name ≡ wire (low c.args.owner.now) = c.as_wire-name.ensures.value
    ∙ ap wire c.to_lowercase-low.ensures.value in
    ap (λ t. t ++ key) (two_copies name c.head.result _ _ _ _ c.copy_from_slice.ensures.after
    c.copy_from_slice-2.ensures.after (omega arith))
    ∙ (append_assoc name c.head.result key ∙ (ap (λ t. name ++ t) c.head.ensures
    ∙ ap (λ t. t ++ key_octets (lent_fields c.args.self.now)) owner))
