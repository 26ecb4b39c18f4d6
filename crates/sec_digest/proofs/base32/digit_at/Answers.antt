use Rattle.std.proofs.Common.{◌≡◌, ℕ, ◌+◌, ◌*◌, ◌/◌, ◌%◌, ◌-◌, ◌<◌, ◌^◌, get_or, arith, ap, ◌∙◌}
use Rattle.std.proofs.lemmas.Nat.{and_mask}
use Rattle.sec_digest.specs.Base32.{digit_at, digit_of, five_bits}
use Rattle.sec_digest.proofs.Groups.{spelled}
use Rattle.sec_digest.proofs.base32.digit_at.Goals as goal

pub returns-clause-value : goal.returns-clause-value
unfolding digit_at
returns-clause-value c =
    let start : ℕ = c.args.i / 8 * 5 + c.args.i % 8 * 5 / 8 in
    let skip : ℕ = c.args.i % 8 * 5 % 8 in
    let next : c.octet_or_zero-next.result ≡ get_or c.args.octets.now (start + 1) 0 = c.octet_or_zero-next.ensures in
    let below : get_or c.args.octets.now (start + 1) 0 < 256 = omega (arith, next) in
    let pair = c.from_be_bytes-pair.ensures ∙ ap (λ (b : ℕ). get_or c.args.octets.now start 0 * 256 + b) next in
    let value : c.from.result ≡ five_bits c.args.octets.now (5 * c.args.i) =
    c.from.ensures ∙ and_mask (c.from_be_bytes-pair.result / 2 ^ (11 - skip)) 5
    ∙ ap (λ (w : ℕ). w / 2 ^ (11 - skip) % 32) pair
    ∙ spelled c.args.octets.now start skip (5 * c.args.i) (omega arith) (omega arith) below in
    c.digit.ensures.value ∙ ap digit_of value
