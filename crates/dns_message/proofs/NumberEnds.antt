-- Where a number ends.
use Rattle.std.proofs.Common.{◌≡◌, ℕ, ◌+◌, List, take, drop, Ok, sym, ap, ◌∙◌}
use Rattle.std.specs.Prelude.{nat_le}
use Rattle.std.specs.Int.{Width, byte_len}
use Rattle.dns_wire.specs.declared.error.DecodeError.TheVariants.{InsufficientBytes}
use Rattle.dns_wire.specs.Reading.{octets_at, number_at}
use Rattle.dns_wire.proofs.FieldLaws.{bind_ok, is_ok_same, passed}

pub number_end : (w : Width) (m : List ℕ) (p e n q : ℕ) → number_at w m p e ≡ Ok (n, q) → q ≡ p + byte_len w
unfolding number_at octets_at
number_end w m p e n q h =
    let b = bind_ok (octets_at (byte_len w) m p e) _ (n, q) h in
    let t = passed (nat_le (p + byte_len w) e) InsufficientBytes
    (take (byte_len w) (drop p m), p + byte_len w) b.0 b.1 in
    let end : p + byte_len w ≡ b.0.1 = ap (λ (y : List ℕ × ℕ). y.1) t.1 in
    let same : b.0.1 ≡ q = ap (λ (y : ℕ × ℕ). y.1) (is_ok_same _ _ b.2) in
    sym (end ∙ same)
