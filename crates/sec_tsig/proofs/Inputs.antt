-- Octets under a MAC whose fields fit, and what was put of them.
use Rattle.std.proofs.Common.{◌≡◌, ℕ, ◌^◌, ◌<◌, Bool, true, false, List, ◌++◌, length, Option, Some, None, Result, Ok, Err, refl}
use Rattle.std.proofs.Common.{append_assoc, ap, lt-ltb, subst, sym}
use Rattle.std.proofs.lemmas.Bool.{true≢false}
use Rattle.std.specs.Prelude.{IsOk}
use Rattle.std.specs.Option.{ForSome}
use Rattle.dns_wire.specs.declared.error.EmitError.{EmitError}
use Rattle.dns_wire.specs.Sinks.{Puts, Takes}
use Rattle.dns_wire.specs.Octets.{two_octets}
use Rattle.dns_grammar.specs.Messages.{TsigData}
use Rattle.sec_sigdata.specs.TsigRecords.{tsig_timers}
use Rattle.sec_tsig.specs.Tsig.{mac_input, prior_mac, written_covered, covered_fields, written_input, IsCounted}

covered_fits : (first : Bool) (owner : List (List ℕ)) (tsig : TsigData) → tsig.time < 2 ^ 48 → length tsig.other < 2 ^ 16
    → written_covered first owner tsig ≡ Ok (covered_fields first owner tsig)
unfolding tsig_timers
covered_fits true owner tsig time other = rw (lt-ltb _ _ time, lt-ltb _ _ other) refl
covered_fits false owner tsig time other = rw (lt-ltb _ _ time) refl

pub input_fits : (previous : Option (List ℕ)) (first : Bool) (message : List ℕ) (owner : List (List ℕ)) (tsig : TsigData)
    → ForSome previous IsCounted → tsig.time < 2 ^ 48 → length tsig.other < 2 ^ 16
    → written_input previous (Ok message) first owner tsig ≡ Ok (mac_input previous first message owner tsig)
unfolding mac_input prior_mac
input_fits None first message owner tsig counted time other = rw (covered_fits first owner tsig time other) refl
input_fits (Some mac) first message owner tsig counted time other =
    rw (covered_fits first owner tsig time other, lt-ltb _ _ (counted mac refl)) (
    ap (λ (l : List ℕ). let ok : Result (List ℕ) EmitError = Ok l in ok) (sym (append_assoc (two_octets (length mac) ++ mac) message (covered_fields first owner tsig))))

-- the octets that are written
pub octets_written : (written : Result (List ℕ) EmitError) → IsOk written → (octets : List ℕ) × (written ≡ Ok octets)
octets_written (Ok octets) is = (octets, refl)
octets_written (Err e) is = absurd (true≢false (sym is))

-- what was put of what can be written
pub put_is_ok : {Sink Purpose : Type 0} (has_taken : Sink → Purpose → List ℕ → Type 0) (result : Result (Unit {0}) EmitError)
    (old new : Sink) (written : Result (List ℕ) EmitError) (octets : List ℕ)
    → written ≡ Ok octets → Puts has_taken result old new written → IsOk result
put_is_ok has_taken (Ok u) old new written octets is puts = refl
put_is_ok has_taken (Err e) old new written octets is puts = absurd (no (sym is) puts.1)
  where
    no : (let ok : Result (List ℕ) EmitError = Ok octets in ok) ≡ written → written ≡ Err e → ⊥
    no a b = cc

pub put_takes : {Sink Purpose : Type 0} (has_taken : Sink → Purpose → List ℕ → Type 0) (result : Result (Unit {0}) EmitError)
    (u : Unit {0}) (old new : Sink) (written : Result (List ℕ) EmitError) (octets : List ℕ)
    → result ≡ Ok u → written ≡ Ok octets → Puts has_taken result old new written → Takes has_taken old new octets
put_takes has_taken (Ok v) u old new (Ok given) octets done is puts = subst (Takes has_taken old new) (same is) puts
  where
    same : (let ok : Result (List ℕ) EmitError = Ok given in ok) ≡ Ok octets → given ≡ octets
    same e = cc
put_takes has_taken (Ok v) u old new (Err e) octets done is puts = absurd puts
put_takes has_taken (Err e) u old new written octets done is puts = absurd (no done)
  where
    no : (let failed : Result (Unit {0}) EmitError = Err e in failed) ≡ Ok u → ⊥
    no a = cc
