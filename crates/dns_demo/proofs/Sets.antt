-- The record set of an answer has octets to sign.
use Rattle.std.proofs.Common.{◌≡◌, ℕ, ◌+◌, ◌<◌, ◌≤◌, ◌^◌, true, List, [], ◌∷◌, ◌++◌, length, Result, Ok, Err, is_ok, IsOk}
use Rattle.std.proofs.Common.{refl, ap, ◌∙◌, arith, length-append, eq-eqb, codes}
use Rattle.std.specs.Prelude.{nat_eq, ◌&&◌}
use Rattle.std.specs.Cmp.Lexicographic.{pointwise}
use Rattle.std.specs.Fmt.{decimal}
use Rattle.std.specs.Result.{result_unwrap_or}
use Rattle.std.proofs.lemmas.Fmt.{length-decimal-le}
use Rattle.dns_names.specs.Names.{count, low}
use Rattle.dns_types.specs.ClassNumbers as classes
use Rattle.dns_rdata.specs.declared.rdata.RData.{RData}
use Rattle.dns_message.specs.declared.record.Record.{Record}
use Rattle.sec_sign.specs.declared.tbs_error.TbsError.{TbsError}
use Rattle.sec_sign.specs.Sets.{canonical}
use Rattle.sec_sign.specs.Signed.{signed}
use Rattle.sec_sign.proofs.SigningLaws.{shown_itself}
use Rattle.dns_demo.specs.Demo.{address, owner, signature_fields, signed_set}
use Rattle.dns_demo.specs.Laws.{SetsAreSigned}

-- the owner of an answer is a name
pub owner_fits : (k : ℕ) (host : List ℕ) → k < 2 ^ 16 → host ≡ codes "h" ++ decimal k
    → (0 < length host) × (length host ≤ 6)
owner_fits k host below is =
    let digits : length (decimal k) ≤ 5 = length-decimal-le 5 k (omega arith) (omega arith) (omega arith) in
    let size : length host ≡ 1 + length (decimal k) =
    ap length is ∙ length-append (codes "h") (decimal k) in
    (omega (arith, size), omega (arith, size, digits))

-- ---- the set

same_text : (x : List ℕ) → pointwise nat_eq x x ≡ true
same_text [] = refl
same_text (n ∷ x) = λ i. eq-eqb n n refl i && same_text x i

same_labels : (n : List (List ℕ)) → pointwise (pointwise nat_eq) n n ≡ true
same_labels [] = refl
same_labels (x ∷ n) = λ i. same_text x i && same_labels n i

two : (k : ℕ) → 2 ≡ count (owner k)
unfolding owner
two k = refl

is_signed : (k : ℕ) → is_ok (signed signature_fields (owner k) classes.IN (address (owner k) k ∷ [])) ≡ true
unfolding signature_fields canonical
is_signed k = rw (shown_itself (owner k) 2 (two k), same_labels (low (owner k))) refl

pub can_be_signed : (k : ℕ) (name : List (List ℕ)) (records : List (Record RData)) → name ≡ owner k
    → records ≡ address name k ∷ [] → IsOk (signed signature_fields name classes.IN records)
can_be_signed k name records named is =
    ap (λ (rrs : List (Record RData)). is_ok (signed signature_fields name classes.IN rrs)) is
    ∙ ap (λ (n : List (List ℕ)). is_ok (signed signature_fields n classes.IN (address n k ∷ []))) named ∙ is_signed k

unwrapped : (read : Result (List ℕ) TbsError) → is_ok read ≡ true → read ≡ Ok (result_unwrap_or read [])
unwrapped (Ok octets) is = refl
unwrapped (Err cause) is = absurd cc

pub sets_are_signed : SetsAreSigned
unfolding signed_set
sets_are_signed k =
    unwrapped (signed signature_fields (owner k) classes.IN (address (owner k) k ∷ [])) (is_signed k)
