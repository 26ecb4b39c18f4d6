use Rattle.std.proofs.Common.{◌≡◌, ◌∙◌, ℕ, List, ◌++◌, length, drop, ap, replicate}
use Rattle.std.proofs.lemmas.List.{drop-replicate}
use Rattle.dns_c.specs.Transactions.{kept_mac}
use Rattle.dns_c.proofs.transaction.kept_mac.Goals as goal

filled : (mac written : List ℕ) → written ≡ mac → written ++ drop (length mac) (replicate 64 0) ≡ kept_mac mac
filled mac written is =
    ap (λ (x : List ℕ). x ++ drop (length mac) (replicate 64 0)) is
    ∙ ap (λ (zeros : List ℕ). mac ++ zeros) (drop-replicate (length mac) 64 0)

pub returns : goal.returns
returns c = filled _ _ c.copy_from_slice.ensures.after
