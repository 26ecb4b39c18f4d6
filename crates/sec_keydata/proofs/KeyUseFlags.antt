-- The flags of a KEY give the three that they are made of, and have no fault.
use Rattle.std.proofs.Common.{◌≡◌, ◌≤◌, ◌<◌, ℕ, ◌+◌, ◌*◌, ◌^◌, ◌/◌, ◌%◌, Bool, true, false, Option, Some, None, refl}
use Rattle.std.proofs.Common.{subst, arith}
use Rattle.std.proofs.lemmas.Bool.{agree_below_at}
use Rattle.dns_wire.specs.declared.error.DecodeError.{DecodeError}
use Rattle.dns_grammar.specs.Fields.{Num}
use Rattle.sec_keydata.specs.KeyRows.{key_flags_fault}
use Rattle.sec_keydata.specs.declared.key_uses.KeyTrust.{KeyTrust}
use Rattle.sec_keydata.specs.declared.key_uses.KeyTrust.TheVariants as trusts
use Rattle.sec_keydata.specs.declared.key_uses.KeyUsage.{KeyUsage}
use Rattle.sec_keydata.specs.declared.key_uses.KeyUsage.TheVariants as usages
use Rattle.sec_keydata.specs.declared.key_uses.UpdateScope.{UpdateScope}
use Rattle.sec_keydata.specs.Flags.{flag_if}
use Rattle.sec_keydata.specs.KeyUses.{trust_code, usage_code, scope_bits, all_flags}

trust_small : (t : KeyTrust) → trust_code t < 4
trust_small trusts.AuthOrPrivate = omega arith
trust_small trusts.NotPrivate = omega arith
trust_small trusts.NotAuth = omega arith
trust_small trusts.DoNotTrust = omega arith

usage_small : (u : KeyUsage) → usage_code u < 4
usage_small usages.Host = omega arith
usage_small usages.Zone = omega arith
usage_small usages.Entity = omega arith
usage_small usages.Reserved = omega arith

flag_small : (n : ℕ) (b : Bool) → flag_if n b ≤ n
flag_small n true = omega arith
flag_small n false = omega arith

scope_small : (s : UpdateScope) → scope_bits s < 16
scope_small s =
    let zone = flag_small 8 s.zone in
    let strong = flag_small 4 s.strong in
    let unique = flag_small 2 s.unique in
    let general = flag_small 1 s.general in
    omega (arith, zone, strong, unique, general)

pub trust_kept : (t : KeyTrust) (u : KeyUsage) (s : UpdateScope) → all_flags t u s / 2 ^ 14 % 4 ≡ trust_code t
trust_kept t u s = let a = trust_small t in let b = usage_small u in let c = scope_small s in omega (arith, a, b, c)

pub usage_kept : (t : KeyTrust) (u : KeyUsage) (s : UpdateScope) → all_flags t u s / 2 ^ 8 % 4 ≡ usage_code u
usage_kept t u s = let a = trust_small t in let b = usage_small u in let c = scope_small s in omega (arith, a, b, c)

pub scope_kept : (t : KeyTrust) (u : KeyUsage) (s : UpdateScope) → all_flags t u s % 16 ≡ scope_bits s
scope_kept t u s = let a = trust_small t in let b = usage_small u in let c = scope_small s in omega (arith, a, b, c)

abbrev no_fault : Option DecodeError → Bool
no_fault None = true
no_fault (Some _) = false

fault_free : (fault : Option DecodeError) → no_fault fault ≡ true → fault ≡ None
fault_free None e = refl
fault_free (Some _) e = cc

-- the flags of each trust, usage and scope, gone through one by one
abbrev flags_of_place : ℕ → ℕ
flags_of_place k = k / 64 * 2 ^ 14 + k / 16 % 4 * 2 ^ 8 + k % 16

place_allowed : (k : ℕ) → k < 256 → key_flags_fault (Num (flags_of_place k)) ≡ None
place_allowed k h =
    fault_free (key_flags_fault (Num (flags_of_place k)))
    (agree_below_at (λ k. no_fault (key_flags_fault (Num (flags_of_place k)))) (λ _. true) 256 k refl h)

pub flags_allowed : (t : KeyTrust) (u : KeyUsage) (s : UpdateScope) → key_flags_fault (Num (all_flags t u s)) ≡ None
flags_allowed t u s =
    let a = trust_small t in
    let b = usage_small u in
    let c = scope_small s in
    let k = trust_code t * 64 + usage_code u * 16 + scope_bits s in
    let small : k < 256 = omega (arith, a, b, c) in
    let same : flags_of_place k ≡ all_flags t u s = omega (arith, a, b, c) in
    subst (λ n. key_flags_fault (Num n) ≡ None) same (place_allowed k small)

pub ruleset flags_of_uses = (trust_kept, usage_kept, scope_kept, flags_allowed)
