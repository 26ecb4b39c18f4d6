-- Flags of a KEY without fault have no bits but those of trust, usage and scope.
use Rattle.std.proofs.Common.{◌≡◌, ◌<◌, ℕ, ◌+◌, ◌*◌, ◌^◌, ◌/◌, ◌%◌, min, Bool, true, false, cond, eqb, Option, Some}
use Rattle.std.proofs.Common.{None, refl, ap, sym, subst, ◌∙◌, arith}
use Rattle.std.specs.Int.Bits.{bit_and}
use Rattle.std.specs.Int.{bit_at}
use Rattle.std.proofs.lemmas.Bool.{eqb-true}
use Rattle.std.proofs.lemmas.Nat.Bits.{bit_at_and, bit_at-zero}
use Rattle.dns_wire.specs.declared.error.DecodeError.{DecodeError}
use Rattle.dns_wire.specs.declared.error.DecodeError.TheVariants.{KeyFlagsReserved, ExtendedKeyFlagsUnsupported}
use Rattle.dns_grammar.specs.Fields.{Num}
use Rattle.sec_keydata.specs.KeyRows.{key_flags_fault}

abbrev HasSome : Option DecodeError → Type 0
HasSome (Some _) = Unit {0}
HasSome None = ⊥

-- the two tests
both_clear : (n : ℕ) (a b : Bool) → eqb (bit_and n 0x2cf0) 0 ≡ a → eqb (bit_and n 0x1000) 0 ≡ b
    → cond a (cond b None (Some (ExtendedKeyFlagsUnsupported n))) (Some (KeyFlagsReserved n)) ≡ None
    → (bit_and n 0x2cf0 ≡ 0) × (bit_and n 0x1000 ≡ 0)
both_clear n true true p q h = (eqb-true (bit_and n 0x2cf0) 0 p, eqb-true (bit_and n 0x1000) 0 q)
both_clear n true false p q h = absurd (subst HasSome h tt)
both_clear n false b p q h = absurd (subst HasSome h tt)

-- a bit of a mask that a number has nothing of is clear in the number
clear : (n mask i : ℕ) → bit_and n mask ≡ 0 → bit_at mask i ≡ 1 → bit_at n i ≡ 0
clear n mask i h one =
    let both : min (bit_at n i) (bit_at mask i) ≡ 0 = sym (bit_at_and n mask i)
    ∙ (ap (λ x. bit_at x i) h ∙ bit_at-zero i) in
    let least : min (bit_at n i) 1 ≡ 0 = subst (λ x. min (bit_at n i) x ≡ 0) one both in
    omega (arith, least)

pub known_flags : (n : ℕ) → n < 2 ^ 16 → key_flags_fault (Num n) ≡ None
    → n ≡ n / 2 ^ 14 % 4 * 2 ^ 14 + n / 2 ^ 8 % 4 * 2 ^ 8 + n % 16
known_flags n small none =
    let t = both_clear n (eqb (bit_and n 0x2cf0) 0) (eqb (bit_and n 0x1000) 0) refl refl none in
    let b4 : n / 16 % 2 ≡ 0 = clear n 0x2cf0 4 t.0 refl in
    let b5 : n / 32 % 2 ≡ 0 = clear n 0x2cf0 5 t.0 refl in
    let b6 : n / 64 % 2 ≡ 0 = clear n 0x2cf0 6 t.0 refl in
    let b7 : n / 128 % 2 ≡ 0 = clear n 0x2cf0 7 t.0 refl in
    let b10 : n / 1024 % 2 ≡ 0 = clear n 0x2cf0 10 t.0 refl in
    let b11 : n / 2048 % 2 ≡ 0 = clear n 0x2cf0 11 t.0 refl in
    let b12 : n / 4096 % 2 ≡ 0 = clear n 0x1000 12 t.1 refl in
    let b13 : n / 8192 % 2 ≡ 0 = clear n 0x2cf0 13 t.0 refl in
    let s4 : n / 16 ≡ n / 32 * 2 = omega (arith, b4) in
    let s5 : n / 32 ≡ n / 64 * 2 = omega (arith, b5) in
    let s6 : n / 64 ≡ n / 128 * 2 = omega (arith, b6) in
    let s7 : n / 128 ≡ n / 256 * 2 = omega (arith, b7) in
    let s8 : n / 256 ≡ n / 1024 * 4 + n / 256 % 4 = omega arith in
    let s10 : n / 1024 ≡ n / 2048 * 2 = omega (arith, b10) in
    let s11 : n / 2048 ≡ n / 4096 * 2 = omega (arith, b11) in
    let s12 : n / 4096 ≡ n / 8192 * 2 = omega (arith, b12) in
    let s13 : n / 8192 ≡ n / 16384 * 2 = omega (arith, b13) in
    let high : n / 16384 % 4 ≡ n / 16384 = omega (arith, small) in
    let low : n ≡ n / 16 * 16 + n % 16 = omega arith in
    omega (arith, s4, s5, s6, s7, s8, s10, s11, s12, s13, high, low)
